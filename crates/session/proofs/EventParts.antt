-- An EVENT by its parts.
use Rattle.std.proofs.Common.{◌≡◌, ◌+◌, ◌^◌, ℕ, suc, List, ◌++◌, Option, Some, None, Bool, true, false, nat_lt, refl, sym, ap, ◌∙◌, subst, append_assoc}
use Rattle.std.specs.Prelude.{codes}
use Rattle.message_tree.specs.Data.{Data, list, dict, text, flag, item, Entries, no_entries}
use Rattle.msgpack_codec.specs.Short.{item_count}
use Rattle.rawsocket.specs.declared.handshake.Serializer.{Serializer}
use Rattle.rawsocket.specs.declared.handshake.Serializer.TheVariants.{Json, MsgPack}
use Rattle.wamp_messages.specs.Arguments.{last_items}
use Rattle.session.specs.ToClient.{number, event, event_details, put_if}
use Rattle.session.specs.Serializer.{serialized}
use Rattle.arguments.specs.Endings.{IsEnding}
use Rattle.session.specs.body.EventHead.{event_beginning, event_front}
use Rattle.session.specs.body.SerializedParts.{has_spelling, list_opening, list_closing, separator, further}
use Rattle.wamp_messages.specs.declared.item.Publication.{Publication}
use Rattle.session.proofs.ListParts.{whole_list}

abbrev details_where : Bool → Publication → Entries
details_where disclosed p =
    put_if disclosed (codes "publisher") (number p.publisher.id) (put_if disclosed (codes "publisher_authid") (text p.publisher.authid)
    (put_if disclosed (codes "publisher_authrole") (text p.publisher.authrole)
    (put_if false (codes "retained") (flag true) (put_if false (codes "topic") (text p.topic) no_entries))))

no_details : (p : Publication) → p.disclosed ≡ false → event_details p false false ≡ no_entries
unfolding event_details put_if
no_details p plain = ap (λ d. details_where d p) plain

counted : (a k : Option Data) → 4 + item_count (last_items a k) ≡ suc (suc (suc (suc (item_count (last_items a k)))))
counted None k = refl
counted (Some a) None = refl
counted (Some a) (Some k) = refl

joined : (opened type sep n m details rest closed : List ℕ)
    → (opened ++ (type ++ (sep ++ (n ++ (sep ++ (m ++ (sep ++ details))))))) ++ (rest ++ closed) ≡ opened ++ (type ++ ((sep ++ (n ++ (sep ++ (m ++ (sep ++ (details ++ rest)))))) ++ closed))
joined opened type sep n m details rest closed = simp append_assoc

-- what stands before the arguments, the arguments, and the end of the list
pub event_whole : (s : Serializer) (subscription : ℕ) (p : Publication) (with_topic retained : Bool)
    → event_beginning s (4 + item_count (last_items p.args.args p.args.kwargs)) subscription p.id (dict (event_details p with_topic retained))
    ++ (further s (last_items p.args.args p.args.kwargs) ++ list_closing s) ≡ serialized s (event subscription p with_topic retained)
event_whole s subscription p with_topic retained =
    let rest = last_items p.args.args p.args.kwargs in
    let type = number 36 in
    let n = number subscription in
    let m = number p.id in
    let details = dict (event_details p with_topic retained) in
    let ds = item n (item m (item details rest)) in
    joined (list_opening s (4 + item_count rest)) (serialized s type) (separator s) (serialized s n) (serialized s m) (serialized s details) (further s rest) (list_closing s)
    ∙ ap (λ k. list_opening s k ++ (serialized s type ++ (further s ds ++ list_closing s))) (counted p.args.args p.args.kwargs)
    ∙ sym (whole_list s type ds)

-- the same where there are no details
pub event_octets : (s : Serializer) (subscription : ℕ) (p : Publication) (tail : List ℕ) → IsEnding s p.args tail → p.disclosed ≡ false
    → event_front s (4 + item_count (last_items p.args.args p.args.kwargs)) subscription p.id ++ (tail ++ list_closing s) ≡ serialized s (event subscription p false false)
event_octets s subscription p tail t plain =
    let rest = last_items p.args.args p.args.kwargs in
    let count = 4 + item_count rest in
    ap (λ o. event_front s count subscription p.id ++ (o ++ list_closing s)) t.octets_are
    ∙ ap (λ es. event_beginning s count subscription p.id (dict es) ++ (further s rest ++ list_closing s)) (sym (no_details p plain))
    ∙ event_whole s subscription p false false

few : (a k : Option Data) → nat_lt (suc (suc (suc (suc (item_count (last_items a k)))))) (2 ^ 32) ≡ true
few None k = refl
few (Some a) None = refl
few (Some a) (Some k) = refl

spelled_of : (s : Serializer) (p : Publication) (subscription : ℕ) (tail : List ℕ) → IsEnding s p.args tail
    → has_spelling s (list (item (number 36) (item (number subscription) (item (number p.id) (item (dict no_entries) (last_items p.args.args p.args.kwargs)))))) ≡ true
spelled_of Json p subscription tail t = refl
spelled_of MsgPack p subscription tail t = rw (few p.args.args p.args.kwargs) t.spelled

-- it has a spelling, where its arguments have one
pub event_is_spelled : (s : Serializer) (subscription : ℕ) (p : Publication) (tail : List ℕ) → IsEnding s p.args tail → p.disclosed ≡ false → has_spelling s (event subscription p false false) ≡ true
event_is_spelled s subscription p tail t plain =
    let rest = last_items p.args.args p.args.kwargs in
    subst (λ es. has_spelling s (list (item (number 36) (item (number subscription) (item (number p.id) (item (dict es) rest))))) ≡ true) (sym (no_details p plain)) (spelled_of s p subscription tail t)
