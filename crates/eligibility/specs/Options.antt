-- What an option asks for, by its kind. An option whose value is null counts as absent, and `None` says that the value has a wrong type.
use Rattle.std.specs.Prelude.{ℕ, ℤ, Bool, List, [], ◌∷◌, None, Some, if◌then◌else◌}
use Rattle.std.specs.declared.option.Option.{Option}
use Rattle.message_tree.specs.Data.{Data, null, flag, whole, text, list, fits_codecs, Items, no_items, item}

-- a flag, or this one when absent
abbrev pub flag_or : Bool → Option Data → Option Bool
flag_or absent None = Some absent
flag_or absent (Some null) = Some absent
flag_or absent (Some (flag b)) = Some b
flag_or absent (Some _) = None

-- a whole number; one that no serialization carries counts as no whole number
abbrev pub number_of : Data → Option ℤ
number_of (whole z) = if fits_codecs z then Some z else None
number_of _ = None

abbrev pub text_of : Data → Option (List ℕ)
text_of (text s) = Some s
text_of _ = None

abbrev pub with_first : {X : Type 0} → Option X → Option (List X) → Option (List X)
with_first None xs = None
with_first (Some x) None = None
with_first (Some x) (Some xs) = Some (x ∷ xs)

-- what each item is, where each is of the kind
abbrev pub each_of : {X : Type 0} → (Data → Option X) → Items → Option (List X)
each_of kind no_items = Some []
each_of kind (item d ds) = with_first (kind d) (each_of kind ds)

abbrev pub some_list : {X : Type 0} → Option (List X) → Option (Option (List X))
some_list None = None
some_list (Some xs) = Some (Some xs)

-- a list of the kind, or no list when absent
abbrev pub list_or_none : {X : Type 0} → (Data → Option X) → Option Data → Option (Option (List X))
list_or_none kind None = Some None
list_or_none kind (Some null) = Some None
list_or_none kind (Some (list ds)) = some_list (each_of kind ds)
list_or_none kind (Some _) = None
