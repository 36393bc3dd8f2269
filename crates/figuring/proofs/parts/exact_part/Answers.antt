-- The gap is below 2 ^ 16 either way and the scale at most 5 × 10^13, so their product keeps within an i64.
use Rattle.std.proofs.Common.{◌≡◌, ◌*◌, ◌≤◌, arith, pos, nat_abs, ◌-ℤ◌, to_z, of_z, w64}
use Rattle.std.proofs.lemmas.Int.{ints}
use Rattle.figuring.specs.Parts.{part_of}
use Rattle.figuring.proofs.SignedLaws.{abs_gap, kept, small}
use Rattle.figuring.proofs.PartLaws.{Limited, limited, pair_small, scale_small, part_small}
use Rattle.figuring.proofs.parts.exact_part.Goals as goal
use Rattle.figuring.proofs.parts.exact_part.Goals.{After-from}

limits : (c : After-from) → Limited c.args.fcl c.args.cf c.args.volume c.args.life
limits c = limited _ _ _ _ c.requires

gap_is :
    (c : After-from)
    → to_z w64 (of_z w64 (to_z w64 (of_z w64 c.from.result) -ℤ to_z w64 c.args.fcl))
    ≡ pos c.args.standard -ℤ pos c.args.fcl
gap_is c = omega (arith, ints, limits c)

scale_is : (c : After-from) → to_z w64 (c.args.cf * c.args.volume * c.args.life) ≡ pos (c.args.cf * c.args.volume * c.args.life)
scale_is c = omega (arith, ints, scale_small (limits c))

part_within : (c : After-from) → nat_abs (part_of c.args.standard c.args.fcl c.args.cf c.args.volume c.args.life) ≤ 3276800000000000000
part_within c =
    omega (arith, part_small (limits c) c.args.standard 65536 (abs_gap c.args.standard c.args.fcl 65536 (omega arith) (omega (arith, limits c))))

pub overflow_cast-gap : goal.overflow_cast-gap
overflow_cast-gap c = omega (arith, ints, limits c)

pub overflow_sub-gap : goal.overflow_sub-gap
overflow_sub-gap c = omega (arith, ints, limits c)

pub overflow_mul-scale : goal.overflow_mul-scale
overflow_mul-scale c = omega (arith, pair_small (limits c))

pub overflow_mul-scale-2 : goal.overflow_mul-scale-2
overflow_mul-scale-2 c = omega (arith, scale_small (limits c))

pub overflow_cast-result : goal.overflow_cast-result
overflow_cast-result c = omega (arith, ints, scale_small (limits c))

pub overflow_mul-result : goal.overflow_mul-result
unfolding part_of
overflow_mul-result c = rw (gap_is c, scale_is c) (small _ (omega (arith, part_within c)))

pub returns : goal.returns
unfolding part_of
returns c = rw (gap_is c, scale_is c) (kept _ (omega (arith, part_within c)))
