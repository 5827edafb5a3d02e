use Rattle.std.proofs.Common.{ap, sym, ◌∙◌, option_map}
use Rattle.message_tree.specs.Data.{find_entry}
use Rattle.message_tree.specs.View.{view, entries_view}
use Rattle.message_tree.specs.declared.dict.Dict.{out-Dict}
use Rattle.message_tree.proofs.Views.{dict_view-out, dict_view-roll, find_entry-map, find_entry-removed}
use Rattle.message_tree.proofs.dict.Dict.take.Goals as goal

pub returns-clause-value : goal.returns-clause-value
returns-clause-value c =
    ap (option_map view) c.remove.ensures.value ∙ sym (find_entry-map c.args.key.now (out-Dict c.args.self.now).entries.entries)
    ∙ ap (find_entry c.args.key.now) (sym (dict_view-out c.args.self.now))

pub returns-clause-gone : goal.returns-clause-gone
returns-clause-gone c =
    ap (find_entry c.args.key.now) (dict_view-roll _) ∙ find_entry-map c.args.key.now c.remove.new.self.entries
    ∙ ap (option_map view) c.remove.ensures.updates.1

pub returns-clause-others : goal.returns-clause-others
returns-clause-others c =
    λ other apart. ap (find_entry other) (dict_view-roll _ ∙ ap entries_view c.remove.ensures.entries)
    ∙ find_entry-removed other c.args.key.now (out-Dict c.args.self.now).entries.entries apart
    ∙ ap (find_entry other) (sym (dict_view-out c.args.self.now))
