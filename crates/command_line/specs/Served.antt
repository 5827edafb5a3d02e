-- What `serve --check` prints: what a broker would serve, a line for each thing.
use Rattle.std.specs.Prelude.{ℕ, Bool, true, false, None, Some, List, [], ◌∷◌, ◌++◌, codes, decimal, string_bytes}
use Rattle.std.specs.declared.option.Option.{Option}
use Rattle.broker_config.specs.declared.config.Ids.{Ids}
use Rattle.broker_config.specs.declared.config.Ids.TheVariants.{Random, Count}
use Rattle.rawsocket.specs.Bounds.{most_octets}
use Rattle.command_line.specs.declared.serving.Serving.{Serving}
use Rattle.command_line.specs.Grants.{Pair, bytes_of}
use Rattle.command_line.specs.Reasons.{shown}

-- a name, a space (32), a value, and LF (10)
abbrev pub line : List ℕ → List ℕ → List ℕ
line name value = name ++ (32 ∷ (value ++ 10 ∷ []))

abbrev pub realm_lines : List (List ℕ) → List ℕ
realm_lines [] = []
realm_lines (realm ∷ realms) = line (codes "realm") (shown realm) ++ realm_lines realms

-- an authid, a colon (58) and the role that it gives
abbrev pub grant_line : List ℕ → List ℕ → List ℕ
grant_line authid role = line (codes "grant") (shown authid ++ 58 ∷ shown role)

abbrev pub grant_lines : List Pair → List ℕ
grant_lines [] = []
grant_lines (grant ∷ grants) = grant_line grant.0 grant.1 ++ grant_lines grants

abbrev pub ids_word : Ids → List ℕ
ids_word Random = codes "random"
ids_word Count = codes "count"

abbrev pub log_word : Bool → List ℕ
log_word true = codes "yes"
log_word false = codes "no"

-- how often the log tells of each realm, in seconds, if it does
abbrev pub stats_word : Option ℕ → List ℕ
stats_word None = codes "no"
stats_word (Some seconds) = decimal seconds

-- where it listens, each realm, each grant, how much may wait for a client, what ids are made of, whether there is a log, how often that tells of each realm, and how long a client's message may be
abbrev pub served_lines : Serving → List ℕ
served_lines s =
    line (codes "host") (shown (string_bytes s.host)) ++ line (codes "port") (decimal s.port) ++ realm_lines s.config.realms.items ++ grant_lines (bytes_of s.config.grants.items)
    ++ line (codes "outbox") (decimal s.config.outbox) ++ line (codes "ids") (shown (ids_word s.config.ids)) ++ line (codes "log") (shown (log_word s.log))
    ++ line (codes "stats") (stats_word s.stats) ++ line (codes "longest-message") (decimal (most_octets s.bound))
