-- A query as C hands it over: three numbers. Defined: query_of.
use Rattle.std.specs.Prelude.{ℤ}
use Rattle.sphere.specs.declared.point.Point.{Point}

abbrev pub query_of : ℤ → ℤ → ℤ → Point
query_of x y z = record { x = x; y = y; z = z }
