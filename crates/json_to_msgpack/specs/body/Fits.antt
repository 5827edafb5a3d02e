-- How a value was written, as tests.
use Rattle.std.specs.Prelude.{Bool, true, false}
use Rattle.json_to_msgpack.specs.declared.fit.Fit.{Fit}
use Rattle.json_to_msgpack.specs.declared.fit.Fit.TheVariants.{Within, TooDeep, Unreadable}

abbrev pub is_read : Fit → Bool
is_read Within = true
is_read TooDeep = true
is_read Unreadable = false

abbrev pub is_within : Fit → Bool
is_within Within = true
is_within TooDeep = false
is_within Unreadable = false
