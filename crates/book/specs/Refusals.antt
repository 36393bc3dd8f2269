-- Document 01, "Refusal list": its numbers, and how an ordered table of tests refuses.
use Rattle.std.specs.Prelude.{ℕ, Bool, true, false, List, [], ◌∷◌, ℤ, pos, get_or, Result, Ok, Err}
use Rattle.book.specs.declared.answers.Refusal.{Refusal}
use Rattle.book.specs.declared.answers.Refusal.TheVariants.{NotAForm, UnsoundBook, UnknownMaker, UnknownSet}
use Rattle.book.specs.declared.answers.Refusal.TheVariants.{YearNotOpen, NoStandard, UnknownFamily, OutOfLimits}
use Rattle.book.specs.declared.answers.Refusal.TheVariants.{AlreadyFiled, VintageNotLive, ZeroAmount, SameMaker}
use Rattle.book.specs.declared.answers.Refusal.TheVariants.{HasShortage, NoOpenShortage, AboveLot, AboveShortage}
use Rattle.book.specs.declared.answers.Refusal.TheVariants.{NoEdition, NotFiled, NotATable, UnfitTable}
use Rattle.book.specs.declared.answers.Refusal.TheVariants.{ShortBuffer, NotABook}
use Rattle.book.specs.declared.answers.Answer.{Answer}
use Rattle.book.specs.declared.answers.Answer.TheVariants.{Filed, Closed, Left, Covered}

-- the paper's number of each refusal
abbrev pub number_of : Refusal → ℕ
-- The line isn't one of the forms (text only).
number_of NotAForm = 1
-- The book isn't sound.
number_of UnsoundBook = 2
-- A maker is above 7 (either one, in a trade).
number_of UnknownMaker = 3
-- The set is above 3.
number_of UnknownSet = 4
-- The year filed, or amended (card 6), or closed isn't the open year, or the open year is 2038.
number_of YearNotOpen = 5
-- There is no standard for this set, use and year.
number_of NoStandard = 6
-- The family number is above 63, or above the limit that the filing is under (card 10).
number_of UnknownFamily = 7
-- FCL, CF, volume or life is outside its limits, or the volume is above the limit that the filing is under (card 10).
number_of OutOfLimits = 8
-- The family number is already filed in this cell this year.
number_of AlreadyFiled = 9
-- The vintage isn't live.
number_of VintageNotLive = 10
-- The amount is 0.
number_of ZeroAmount = 11
-- A trade has the same maker twice.
number_of SameMaker = 12
-- The selling or retiring maker has a shortage above 0 in that set, open or overdue.
number_of HasShortage = 13
-- The application's year has no open shortage above 0 in that cell.
number_of NoOpenShortage = 14
-- The amount is above the lot.
number_of AboveLot = 15
-- The amount is above the shortage.
number_of AboveShortage = 16
-- Card 5: the edition is above 2, or is 1 or 2 outside sets 2 and 3 or outside 2024-2026; "checked after 6".
number_of NoEdition = 17
-- Card 6: the family number isn't filed in this cell this year; "stands in place of 9".
number_of NotFiled = 18
-- Card 7: a line of `std.txt` isn't of that form, is missing or too many, or its year is wrong (text only).
number_of NotATable = 19
-- Card 7: an entry of the table breaks the limits or rises.
number_of UnfitTable = 20
-- Card 8: the lent buffer is shorter than the text.
number_of ShortBuffer = 21
-- Card 8: a line of a written book is missing, malformed, out of order or repeated, or a maker, set, number or year in it
-- isn't one of the book's (text only).
number_of NotABook = 22

-- what a call answers: what an accepted one gives, or the refusal
abbrev pub Answered : Type 0
Answered = Result Answer Refusal

-- the number of an answer's refusal, 0 where the call was accepted
unfoldable pub refusal_in : Answered → ℕ
refusal_in (Err r) = number_of r
refusal_in (Ok a) = 0

-- the values of an accepted call, in the paper's order: a filing's part and count, a close's cells that closed short,
-- what is left in the paying lot; of a cover (card 9) "the Mg moved"
unfoldable pub values_in : Answered → List ℤ
values_in (Err r) = []
values_in (Ok (Filed p n)) = p.0 ∷ pos n ∷ []
values_in (Ok (Closed n)) = pos n ∷ []
values_in (Ok (Left m)) = pos m.0 ∷ []
values_in (Ok (Covered m)) = pos m.0 ∷ []

-- the result at a place of an answer, from 0 on: its value there, and zero where it has none. So of a refusal, which
-- has no values, each is "zero for the other results"
abbrev pub result_in : Answered → ℕ → ℤ
result_in a i = get_or (values_in a) i (pos 0)

-- one row of a call's table: a test, and the refusal where it holds
pub record Row : Type 0 where
  pub test : Bool
  pub why : Refusal

infix 10 ◌⇒◌
abbrev pub ◌⇒◌ : Bool → Refusal → Row
t ⇒ r = record { test = t; why = r }

-- what a table of tests says: accepted, or the refusal
abbrev pub Verdict : Type 0
Verdict = Result (Unit {0}) Refusal

abbrev pub or_else : Bool → Refusal → Verdict → Verdict
or_else true r v = Err r
or_else false r v = v

-- refused with the first that applies, accepted when none does
abbrev pub first_refusal : List Row → Verdict
first_refusal [] = Ok tt
first_refusal (x ∷ xs) = or_else x.test x.why (first_refusal xs)
