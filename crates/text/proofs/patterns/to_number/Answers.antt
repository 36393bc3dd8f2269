use Rattle.std.proofs.Common.{arith, inl, inr}
use Rattle.std.proofs.lemmas.List.{nil_from_length}
use Rattle.text.proofs.PatternLaws.{from_start, over, at_number, text_over, other_byte, same_byte}
use Rattle.text.proofs.patterns.to_number.Goals as goal

pub loop-p-init : goal.loop-p-init
loop-p-init c = from_start c.args.form.now c.args.text.now

pub returns-then-p-eq35 : goal.returns-then-p-eq35
returns-then-p-eq35 c = at_number c.loop-p.invariant c.in-Some.ensures.cases.0 c.if-p-eq35.true

pub returns-in_err-b : goal.returns-in_err-b
returns-in_err-b c =
    rw c.from_residual.ensures
    (inr (text_over c.loop-p.invariant c.in-Some.ensures.cases.0 c.if-p-eq35.false
    (nil_from_length _ c.in_err-b.ensures.cases)))

pub returns-then-b-p : goal.returns-then-b-p
returns-then-b-p c =
    inr (other_byte c.loop-p.invariant c.in-Some.ensures.cases.0 c.if-p-eq35.false c.in_ok-b.ensures.cases.0 c.if-b-p.true)

pub loop-p-smaller : goal.loop-p-smaller
loop-p-smaller c = omega (arith, c.in-Some.ensures.cases.1)

pub loop-p-preserved : goal.loop-p-preserved
loop-p-preserved c =
    same_byte c.loop-p.invariant c.in-Some.ensures.cases.0 c.if-p-eq35.false c.in_ok-b.ensures.cases.0 c.if-b-p.false

pub returns : goal.returns
returns c = inl (over c.loop-p.invariant (nil_from_length _ c.in_default.ensures.cases))
