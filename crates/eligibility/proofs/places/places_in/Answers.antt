use Rattle.std.proofs.Common.{◌≡◌, ℕ, ◌∷◌, Some, Vec, Global, map, subst, ap, ◌∙◌}
use Rattle.std.proofs.lemmas.Result.{IfOk-weaker}
use Rattle.message_tree.specs.Data.{Items, list}
use Rattle.msgpack_codec.specs.Grammar.{Spells}
use Rattle.msgpack_codec.specs.Tokens.{IsToken}
use Rattle.msgpack_canonical.proofs.Tokens.{no-token}
use Rattle.msgpack_cursor.proofs.Walking.{other-no-list, message-there}
use Rattle.eligibility.specs.Options.{each_of, text_of}
use Rattle.msgpack_cursor.specs.Standing.{items_in, AreThere}
use Rattle.eligibility.specs.body.Standing.{text_at}
use Rattle.eligibility.proofs.Standing.{members}
use Rattle.eligibility.proofs.places.places_in.Goals as goal

pub returns-in_default-clause-bad : goal.returns-in_default-clause-bad
returns-in_default-clause-bad c = λ is ds s. absurd (message-there c.args.octets.now _ s (no-token 100 c.args.octets.now c.in_default.ensures.err))

pub places_from-requires : goal.places_from-requires
places_from-requires c =
    let head = subst (λ t. IsToken t c.args.octets.now c.in-Ok.members.now) c.in-List.is c.in-Ok.ensures.ok in
    (head.0 ∷ head.2, head.3)

pub returns-in-List-clause-ok : goal.returns-in-List-clause-ok
returns-in-List-clause-ok c =
    let head = subst (λ t. IsToken t c.args.octets.now c.in-Ok.members.now) c.in-List.is c.in-Ok.ensures.ok in
    let Read : Vec ℕ Global → Type 0 = λ places. AreThere 99 c.in-List.count c.in-Ok.members.now
    → each_of text_of (items_in 99 c.in-List.count c.in-Ok.members.now) ≡ Some (map (text_at c.args.octets.now) places.items) in
    let Listed : Vec ℕ Global → Type 0 = λ places. (ds : Items) → Spells 100 c.args.octets.now (list ds) → each_of text_of ds ≡ Some (map (text_at c.args.octets.now) places.items) in
    IfOk-weaker c.places_from.result Read Listed (λ places read ds s.
    let m = members c.in-List.count c.args.octets.now c.in-Ok.members.now ds head s in
    ap (each_of text_of) m.1 ∙ read m.0) c.places_from.ensures.ok

pub returns-in-List-clause-bad : goal.returns-in-List-clause-bad
returns-in-List-clause-bad c = λ is ds s.
    let head = subst (λ t. IsToken t c.args.octets.now c.in-Ok.members.now) c.in-List.is c.in-Ok.ensures.ok in
    let m = members c.in-List.count c.args.octets.now c.in-Ok.members.now ds head s in
    ap (each_of text_of) m.1 ∙ c.places_from.ensures.bad is m.0

pub returns-in_default-token-clause-bad : goal.returns-in_default-token-clause-bad
returns-in_default-token-clause-bad c = λ is ds s. absurd (other-no-list c.in-Ok.token c.args.octets.now c.in-Ok.members.now c.in-Ok.ensures.ok c.in_default-token.not-List ds s)
