-- Arguments and ArgumentsKw from the elements of a message; `None` is a wrong kind.
use Rattle.std.specs.Prelude.{None, Some}
use Rattle.std.specs.declared.option.Option.{Option}
use Rattle.message_tree.specs.Data.{Data, null, list, dict, uncarried, no_items, no_entries}
use Rattle.arguments.specs.Arguments.{Arguments}

-- null is read as the empty list
abbrev pub args_of : Data → Option Data
args_of null = Some (list no_items)
args_of (list ds) = Some (list ds)
args_of uncarried = Some uncarried
args_of _ = None

-- null is read as the empty dictionary
abbrev pub kwargs_of : Data → Option Data
kwargs_of null = Some (dict no_entries)
kwargs_of (dict es) = Some (dict es)
kwargs_of uncarried = Some uncarried
kwargs_of _ = None

abbrev pub with_args : Option Data → Option Arguments
with_args None = None
with_args (Some a) = Some (record { args = Some a; kwargs = None })

abbrev pub with_both : Option Data → Option Data → Option Arguments
with_both (Some a) (Some k) = Some (record { args = Some a; kwargs = Some k })
with_both _ _ = None

-- Arguments, and ArgumentsKw where it is there
abbrev pub read_from : Data → Option Data → Option Arguments
read_from a None = with_args (args_of a)
read_from a (Some k) = with_both (args_of a) (kwargs_of k)
