-- Filing order: two orders of the same filings make one book, and each filing gets in both what it gets alone.
use mathlib.Core.List.{List, ◌∷◌}
use mathlib.Core.Path.{◌≡◌, refl, sym, ◌∙◌, ap, ap₂, subst}
use lib.IntN.{ℤ, nat_abs}
use Rattle.book.specs.Refusals.{Answered, result_in, values_in}
use Rattle.book.specs.Orders.{Among, without, Reordered}
use Rattle.book.specs.FilingOrder.{Lodged, named_by, NoTwoAlike, filings, after_filings, count_aside}
use Rattle.book.specs.FilingOrder.{FilingOrder, SaysNoLess, MadeBy, EachAlone}
use Rattle.book.specs.declared.ledger.Book.{Book}
use Rattle.book.specs.declared.answers.Answer.TheVariants.{Filed, Closed, Left, Covered}
use Rattle.std.specs.Prelude.{Ok, Err}
use Rattle.book.proofs.KeptSound.{sized_after}
use Rattle.book.proofs.AmongLaws.{none_among, Stands, is_first, in_rest, stands}
use Rattle.book.proofs.AmongLaws.{in_left, both_without, back, every_order}
use Rattle.book.proofs.FiledAlone.{gets_alone, made_by}
use Rattle.book.proofs.OneBook.{one_book}

pub each_alone : (b : Book) (fs : List Lodged) → EachAlone b fs
each_alone b fs z n =
    record {
      answers = λ f p. gets_alone b p.before f z (λ g q e. n f g p (in_left p.after q) (sym e));
      book = made_by b fs z n;
      only = λ after s m. one_book b fs after (after_filings b fs) s (sized_after b (filings fs) z) m (made_by b fs z n);
    }

-- the filings of the second order are those of the first
none_alike : (fs gs : List Lodged) → Reordered fs gs → NoTwoAlike fs → NoTwoAlike gs
none_alike fs gs r n f g p q =
    let o = both_without fs gs r p in
    n f g o.0 (both_without (without o.0) (without p) o.1 q).0

made_as : (b : Book) (fs gs : List Lodged) (after : Book) → Reordered fs gs → MadeBy b gs after → MadeBy b fs after
made_as b fs gs after r m =
    record {
      filed = λ f t. m.filed f (record { among = (both_without gs fs (back fs gs r) t.among).0; accepted = t.accepted });
      others = λ k hm hs h.
          m.others k hm hs (λ f t. h f (record { among = (both_without fs gs r t.among).0; accepted = t.accepted }));
      else = m.else;
    }

pub filing_order : (b : Book) (fs gs : List Lodged) → FilingOrder b fs gs
filing_order b fs gs z r n =
    let u = each_alone b fs z n in
    let v = each_alone b gs z (none_alike fs gs r n) in
    record {
      books = sym (u.only (after_filings b gs) (sized_after b (filings gs) z) (made_as b fs gs (after_filings b gs) r v.book));
      answers = λ f p q. u.answers f p ∙ sym (v.answers f q);
    }

-- ---- what the words say
one_more :
    (f : Lodged) (fs : List Lodged) → ((g : Lodged) → Among g fs → named_by f ≡ named_by g → ⊥) → NoTwoAlike fs
    → NoTwoAlike (f ∷ fs)
one_more f fs new n g h p q e = go (stands p)
  where
    -- both stand in the rest, or h is f
    rest : (r : Among g fs) (s : Among h (f ∷ without r)) → Stands h f (without r) (without s) → ⊥
    rest r s (is_first d w) = new g r (sym (ap named_by d) ∙ sym e)
    rest r s (in_rest t w) = n g h r t e

    go : Stands g f fs (without p) → ⊥
    go (is_first d w) = new h (subst (Among h) w q) (sym (ap named_by d) ∙ e)
    go (in_rest r w) = let s = subst (Among h) w q in rest r s (stands s)

-- an answer of a filing with another count
abbrev counted : Answered → ℤ → Answered
counted (Err r) z = Err r
counted (Ok (Filed p n)) z = Ok (Filed p (nat_abs z))
counted (Ok (Closed n)) z = Ok (Closed n)
counted (Ok (Left m)) z = Ok (Left m)
counted (Ok (Covered m)) z = Ok (Covered m)

rebuilt : (a : Answered) → counted (count_aside a) (result_in a 1) ≡ a
unfolding values_in
rebuilt (Err r) = refl
rebuilt (Ok (Filed p n)) = refl
rebuilt (Ok (Closed n)) = refl
rebuilt (Ok (Left m)) = refl
rebuilt (Ok (Covered m)) = refl

pub says_no_less : SaysNoLess
says_no_less =
    record {
      orders = every_order Lodged;
      none = λ f g p. absurd (none_among refl p);
      more = one_more;
      aside = λ a c e k. sym (rebuilt a) ∙ ap₂ counted e k ∙ rebuilt c;
    }
