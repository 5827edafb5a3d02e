-- The arguments of a PUBLISH or an EVENT: a list and a dictionary, each where it was given, and each perhaps uncarried as a whole.
use Rattle.std.specs.Prelude.{◌≡◌, ◌≤◌, Bool, true, false, ◌&&◌, ⊤, refl, None, Some}
use Rattle.std.specs.declared.option.Option.{Option}
use Rattle.std.specs.Coded.{Coded, code_by, coded×, coded_option}
use Rattle.message_tree.specs.Data.{Data, list, dict, uncarried, is_carried, depth, Items, no_items, item}
use Rattle.message_tree.specs.Code.{data_code}

pub record Arguments : Type 0 where
  pub args : Option Data
  pub kwargs : Option Data

abbrev pub arguments_code : Coded Arguments
arguments_code =
    code_by (Option Data × Option Data) (coded× (coded_option data_code) (coded_option data_code)) (λ a. (a.args, a.kwargs)) (λ p. record { args = p.0; kwargs = p.1 })
    (λ _. refl)

abbrev pub is_carried_if_any : Option Data → Bool
is_carried_if_any None = true
is_carried_if_any (Some d) = is_carried d

-- nothing in them is uncarried
abbrev pub is_all_carried : Arguments → Bool
is_all_carried a = is_carried_if_any a.args && is_carried_if_any a.kwargs

-- what may stand as Arguments
abbrev pub is_args : Data → Bool
is_args (list ds) = true
is_args uncarried = true
is_args _ = false

-- what may stand as ArgumentsKw
abbrev pub is_kwargs : Data → Bool
is_kwargs (dict es) = true
is_kwargs uncarried = true
is_kwargs _ = false

abbrev pub is_args_if_any : Option Data → Bool
is_args_if_any None = true
is_args_if_any (Some d) = is_args d

abbrev pub is_kwargs_if_any : Option Data → Bool
is_kwargs_if_any None = true
is_kwargs_if_any (Some d) = is_kwargs d

abbrev pub IsShallow : Option Data → Type 0
IsShallow None = ⊤
IsShallow (Some d) = depth d ≤ 99

-- a message has room for them, each is of its kind, and none has keyed arguments alone
pub record FitMessages (a : Arguments) : Type 0 where
  pub args : IsShallow a.args
  pub kwargs : IsShallow a.kwargs
  pub list : is_args_if_any a.args ≡ true
  pub dict : is_kwargs_if_any a.kwargs ≡ true
  pub no_kwargs_alone : a.args ≡ None → a.kwargs ≡ None

-- (Arguments, (ArgumentsKw)), as they stand at the end of a message
abbrev pub last_items : Option Data → Option Data → Items
last_items None k = no_items
last_items (Some a) None = item a no_items
last_items (Some a) (Some k) = item a (item k no_items)
