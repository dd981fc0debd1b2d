-- What a record says of its box, as the code reads it.
--   kind_of s == by the number of its kind: 0 a gap box, 1 a listed tuple, both with a second origin that is 0, 2 a resolvent
use Rattle.std.specs.Prelude.{◌&&◌, Option, Some, None, eqb}
use Rattle.boxes.specs.Intervals.{pick}
use Rattle.course.specs.Stores.{Stored}
use Rattle.checker.specs.declared.kind.Kind.{Kind}
use Rattle.checker.specs.declared.kind.Kind.TheVariants.{Gap, Tuple, Resolvent}

abbrev pub kind_of : Stored → Option Kind
kind_of s =
    pick (eqb s.kind 0 && eqb s.second 0) (Some (Gap s.first))
    (pick (eqb s.kind 1 && eqb s.second 0) (Some (Tuple s.first))
    (pick (eqb s.kind 2) (Some (Resolvent s.first s.second)) None))
