-- What contracts see of the table of connections.
use Rattle.std.specs.Prelude.{◌≡◌, List, [], All, Option, None, length}
use Rattle.ghost_state.specs.GhostList.{items_of}
use Rattle.ghost_state.specs.declared.ghost_list.GhostList.{GhostList}
use Rattle.threaded_server.specs.Overs.{Books}
use Rattle.threaded_server.specs.declared.entry.Connection.{Connection}
use Rattle.threaded_server.specs.declared.over.Over.{Over}

-- what lists without bytes keep of the streams that were lent, and of those that are over
abbrev pub books : {I O S : Type 0} → GhostList (I × O) → GhostList (Over I O S) → Books I O S
books lent over = record { lent = items_of lent; over = items_of over }

-- nobody is served yet, at any of 256 seats, and no stream is over
pub record IsUnused {I O S : Type 0} (entries : List (Option (Connection I O S))) (streams : List (Over I O S)) : Type 0 where
  pub long : length entries ≡ 256
  pub nobody : All (λ slot. slot ≡ None) entries
  pub nothing : streams ≡ []
