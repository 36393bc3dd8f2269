-- A filing with one of its fields changed, and all else as it is. A record is written out whole: here, for all of them.
use Rattle.std.specs.Prelude.{ℕ}
use Rattle.book.specs.declared.kinds.Purpose.{Purpose}
use Rattle.book.specs.declared.kinds.Filing.{Filing}

abbrev changed : Purpose → ℕ → ℕ → Filing → Filing
changed purpose edition cf f =
    record {
      purpose = purpose;
      maker = f.maker;
      set = f.set;
      year = f.year;
      vehicle_use = f.vehicle_use;
      edition = edition;
      family = f.family;
      fcl = f.fcl;
      cf = cf;
      volume = f.volume;
      life = f.life;
    }

abbrev pub with_purpose : Purpose → Filing → Filing
with_purpose purpose f = changed purpose f.edition f.cf f

abbrev pub with_edition : ℕ → Filing → Filing
with_edition edition f = changed f.purpose edition f.cf f

abbrev pub with_cf : ℕ → Filing → Filing
with_cf cf f = changed f.purpose f.edition cf f
