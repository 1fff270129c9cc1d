-- A sum of two parts of 64 bits as one number.
use Rattle.std.specs.Prelude.{ℕ, ◌+◌, ◌*◌, ◌^◌}
use Rattle.pricing.specs.declared.lines.Sum.{Sum}

abbrev pub sum_of : Sum → ℕ
sum_of s = s.high * 2 ^ 64 + s.low
