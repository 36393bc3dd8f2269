-- A line of each form and an answer of each kind, from document 01's run (credit_book's stored test has the run whole),
-- a line of each form with figures that differ, and what lies at the edges of a form.
use Rattle.std.specs.Prelude.{ℕ, ◌≡◌, List, [], ◌∷◌, ◌++◌, pos, replicate, Some, None, Ok, Err}
use Rattle.figuring.specs.Units.{neg}
use Rattle.book.specs.Limits.{large_entry, small_entry}
use Rattle.book.specs.declared.kinds.Call.{Call}
use Rattle.book.specs.declared.kinds.Purpose.{Purpose}
use Rattle.book.specs.declared.answers.Answer.{Answer}
use Rattle.book.specs.declared.answers.Refusal.{Refusal}
use Rattle.book.specs.declared.listing.LotEntry.{LotEntry}
use Rattle.book.specs.declared.listing.ShortageEntry.{ShortageEntry}
use Rattle.text.specs.Ascii.{ascii}
use Rattle.text.specs.Line.{line_at, line_of}
use Rattle.text.specs.Answers.{text_of}
use Rattle.text.specs.Lines.{lines_of}
use Rattle.text.specs.Listing.{lot_text, shortage_text}

infix 10 ◌reads◌
abbrev pub ◌reads◌ : List ℕ → Call → Type 0
s reads c = line_of s ≡ Some c

abbrev pub NoForm : List ℕ → Type 0
NoForm s = line_of s ≡ None

-- from the paper's input and output
pub record Run : Type 0 where
  pub file :
      ascii "(file (maker 0) (set 3) (year 2014) (use 1) (edition 0) (family 0) (fcl 465) (cf 280000) (volume 1000) (life 435))"
      reads Call.File (record {
        purpose = large_entry;
        maker = 0;
        set = 3;
        year = 2014;
        vehicle_use = 1;
        edition = 0;
        family = 0;
        fcl = 465;
        cf = 280000;
        volume = 1000;
        life = 435;
      })
  pub close : ascii "(close (year 2014))" reads Call.Close 2014
  pub trade :
      ascii "(trade (from 0) (to 1) (set 3) (vintage 2014) (mg 200))"
      reads Call.Trade (record { from = 0; to = 1; set = 3; vintage = 2014; mg = 200 })
  pub apply :
      ascii "(apply (maker 1) (set 3) (vintage 2014) (year 2014) (mg 261))"
      reads Call.Apply (record { maker = 1; set = 3; vintage = 2014; year = 2014; mg = 261 })
  pub retire :
      ascii "(retire (maker 1) (set 3) (vintage 2014) (mg 1))"
      reads Call.Retire (record { maker = 1; set = 3; vintage = 2014; mg = 1 })
  pub filed : text_of (Ok (Answer.Filed (record { 0 = pos 1218000000000 }) 1)) ≡ ascii "(ok 1218000000000 1)\n"
  pub filed_minus : text_of (Ok (Answer.Filed (record { 0 = neg 26100000000 }) 1)) ≡ ascii "(ok -26100000000 1)\n"
  pub closed : text_of (Ok (Answer.Closed 1)) ≡ ascii "(ok 1)\n"
  pub left : text_of (Ok (Answer.Left (record { 0 = 11980 }))) ≡ ascii "(ok 11980)\n"
  pub refused : text_of (Err Refusal.AboveLot) ≡ ascii "(no 15)\n"
  pub lot : lot_text 0 3 2014 (Some (LotEntry.Live (record { 0 = 11980 }))) ≡ ascii "(lot 0 3 2014 live 11980)\n"
  pub short : shortage_text 1 3 2014 (Some (ShortageEntry.Open (record { 0 = 61 }))) ≡ ascii "(short 1 3 2014 open 61)\n"

-- Each figure goes to the field that stands before it: no two of a line are the same here, as some of the run's are. And a
-- cover's answer, of which the run has none.
pub record Fields : Type 0 where
  pub file :
      ascii "(file (maker 1) (set 2) (year 2025) (use 0) (edition 3) (family 4) (fcl 5) (cf 6) (volume 7) (life 8))"
      reads Call.File (record {
        purpose = large_entry;
        maker = 1;
        set = 2;
        year = 2025;
        vehicle_use = 0;
        edition = 3;
        family = 4;
        fcl = 5;
        cf = 6;
        volume = 7;
        life = 8;
      })
  pub small :
      ascii "(small (maker 1) (set 2) (year 2025) (use 0) (edition 3) (family 4) (fcl 5) (cf 6) (volume 7) (life 8))"
      reads Call.File (record {
        purpose = small_entry;
        maker = 1;
        set = 2;
        year = 2025;
        vehicle_use = 0;
        edition = 3;
        family = 4;
        fcl = 5;
        cf = 6;
        volume = 7;
        life = 8;
      })
  pub amend :
      ascii "(amend (maker 1) (set 2) (year 2025) (use 0) (edition 3) (family 4) (fcl 5) (cf 6) (volume 7) (life 8))"
      reads Call.File (record {
        purpose = Purpose.Amend;
        maker = 1;
        set = 2;
        year = 2025;
        vehicle_use = 0;
        edition = 3;
        family = 4;
        fcl = 5;
        cf = 6;
        volume = 7;
        life = 8;
      })
  pub trade :
      ascii "(trade (from 1) (to 2) (set 3) (vintage 4) (mg 5))"
      reads Call.Trade (record { from = 1; to = 2; set = 3; vintage = 4; mg = 5 })
  pub apply :
      ascii "(apply (maker 1) (set 2) (vintage 3) (year 4) (mg 5))"
      reads Call.Apply (record { maker = 1; set = 2; vintage = 3; year = 4; mg = 5 })
  pub retire :
      ascii "(retire (maker 1) (set 2) (vintage 3) (mg 4))"
      reads Call.Retire (record { maker = 1; set = 2; vintage = 3; mg = 4 })
  pub cover : ascii "(cover (maker 1) (set 2))" reads Call.Cover (record { maker = 1; set = 2 })
  pub covered : text_of (Ok (Answer.Covered (record { 0 = 130 }))) ≡ ascii "(ok 130)\n"

pub record Edges : Type 0 where
  pub zero : ascii "(close (year 0))" reads Call.Close 0
  pub twelve_digits : ascii "(close (year 999999999999))" reads Call.Close 999999999999
  pub thirteen_digits : NoForm (ascii "(close (year 1000000000000))")
  pub leading_zero : NoForm (ascii "(close (year 02014))")
  pub no_digits : NoForm (ascii "(close (year ))")
  pub empty : NoForm []
  pub two_spaces : NoForm (ascii "(close  (year 2014))")
  pub space_before : NoForm (ascii " (close (year 2014))")
  pub space_after : NoForm (ascii "(close (year 2014)) ")
  pub carriage_return : NoForm (ascii "(close (year 2014))\r")
  -- the form before card 5
  pub no_edition :
      NoForm (ascii "(file (maker 0) (set 3) (year 2014) (use 1) (family 0) (fcl 465) (cf 280000) (volume 1000) (life 435))")
  pub other_order : NoForm (ascii "(apply (maker 1) (set 3) (year 2014) (vintage 2014) (mg 261))")
  -- a cover names no amount
  pub cover_mg : NoForm (ascii "(cover (maker 1) (set 2) (mg 3))")
  -- a form at a place of a line of 160 bytes, and of a line of 161
  pub rest_of_160 : line_at (replicate 141 32 ++ ascii "(close (year 2014))") 141 ≡ Some (Call.Close 2014)
  pub rest_of_161 : line_at (replicate 142 32 ++ ascii "(close (year 2014))") 142 ≡ None
  pub empty_line : lines_of (ascii "a\n\nb") ≡ ascii "a" ∷ [] ∷ ascii "b" ∷ []
  pub empty_end : lines_of (ascii "a\n") ≡ ascii "a" ∷ []
  pub no_input : lines_of [] ≡ []
