-- Two lists of truth values, place by place.
use Rattle.std.specs.Prelude.{List, Bool, ◌&&◌, ◌||◌}
use Rattle.std.specs.Simd.Lanes.{zip2}

-- place by place, whether both are true
abbrev pub both : List Bool → List Bool → List Bool
both = zip2 (λ x y. x && y)

-- place by place, whether one of them is true
abbrev pub either : List Bool → List Bool → List Bool
either = zip2 (λ x y. x || y)
