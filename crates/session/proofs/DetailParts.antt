-- The details of an EVENT by their parts.
use Rattle.std.proofs.Common.{◌≡◌, ℕ, List, [], ◌∷◌, ◌++◌, Bool, true, false, ◌&&◌, ◌||◌, cond, refl, sym, ap, ◌∙◌, append_assoc, append-nil}
use Rattle.std.specs.Prelude.{codes}
use Rattle.message_tree.specs.Data.{flag, text, dict, Entries, no_entries, entry, entry_count}
use Rattle.json_codec.specs.Encoder.{entries_text}
use Rattle.json_codec.proofs.Lemmas.{dict_text}
use Rattle.msgpack_codec.specs.Short.{entries_short, has_short}
use Rattle.rawsocket.specs.declared.handshake.Serializer.{Serializer}
use Rattle.rawsocket.specs.declared.handshake.Serializer.TheVariants.{Json, MsgPack}
use Rattle.session.specs.body.EventDetails.{publisher_entries, retained_entries, topic_entries}
use Rattle.session.specs.body.SerializedParts.{has_spelling, dict_opening, dict_closing, entries_from, entries_have_spelling}
use Rattle.session.specs.Serializer.{serialized}
use Rattle.session.specs.ToClient.{number, put_if, event_details}
use Rattle.wamp_messages.specs.declared.item.Publication.{Publication}

entries_json : (later : Bool) (es : Entries) → entries_text later es ≡ entries_from Json later es
entries_json later no_entries = refl
entries_json true (entry k d es) = ap (λ o. (44 ∷ (serialized Json (text k) ++ 58 ∷ [])) ++ (serialized Json d ++ o)) (entries_json true es)
entries_json false (entry k d es) = ap (λ o. (serialized Json (text k) ++ 58 ∷ []) ++ (serialized Json d ++ o)) (entries_json true es)

regroup : (h k d o : List ℕ) → h ++ (k ++ (d ++ o)) ≡ (h ++ k) ++ (d ++ o)
regroup h k d o = sym (append_assoc h k (d ++ o))

entries_msgpack : (later : Bool) (es : Entries) → entries_short es ≡ entries_from MsgPack later es
entries_msgpack later no_entries = refl
entries_msgpack later (entry k d es) =
    regroup _ k (serialized MsgPack d) (entries_short es) ∙ ap (λ o. serialized MsgPack (text k) ++ (serialized MsgPack d ++ o)) (entries_msgpack true es)

-- a dictionary by its entries
pub whole_dict : (s : Serializer) (es : Entries) → serialized s (dict es) ≡ dict_opening s (entry_count es) ++ (entries_from s false es ++ dict_closing s)
whole_dict Json es = dict_text es ∙ ap (λ o. 123 ∷ (o ++ 125 ∷ [])) (entries_json false es)
whole_dict MsgPack es = ap (λ o. dict_opening MsgPack (entry_count es) ++ o) (entries_msgpack false es ∙ sym (append-nil (entries_from MsgPack false es)))

abbrev publisher_of : Bool → ℕ → List ℕ → List ℕ → Entries
publisher_of d id authid authrole =
    cond d (entry (codes "publisher") (number id) (entry (codes "publisher_authid") (text authid) (entry (codes "publisher_authrole") (text authrole) no_entries))) no_entries

abbrev details_of : Bool → ℕ → List ℕ → List ℕ → List ℕ → Bool → Bool → Entries
details_of d id authid authrole topic with_topic retained =
    put_if d (codes "publisher") (number id) (put_if d (codes "publisher_authid") (text authid) (put_if d (codes "publisher_authrole") (text authrole)
    (put_if retained (codes "retained") (flag true) (put_if with_topic (codes "topic") (text topic) no_entries))))

parts : (s : Serializer) (d : Bool) (id : ℕ) (authid authrole topic : List ℕ) (with_topic retained : Bool)
    → entries_from s false (details_of d id authid authrole topic with_topic retained)
    ≡ entries_from s false (publisher_of d id authid authrole) ++ (entries_from s d (retained_entries retained) ++ entries_from s (d || retained) (topic_entries with_topic topic))
unfolding put_if
parts s true id a o topic true true = simp (append_assoc, append-nil)
parts s true id a o topic true false = simp (append_assoc, append-nil)
parts s true id a o topic false true = simp (append_assoc, append-nil)
parts s true id a o topic false false = simp (append_assoc, append-nil)
parts s false id a o topic true true = simp (append_assoc, append-nil)
parts s false id a o topic true false = simp append-nil
parts s false id a o topic false true = simp (append_assoc, append-nil)
parts s false id a o topic false false = refl

pub parts_of_details : (s : Serializer) (p : Publication) (with_topic retained : Bool)
    → serialized s (dict (event_details p with_topic retained))
    ≡ dict_opening s (entry_count (event_details p with_topic retained))
    ++ ((entries_from s false (publisher_entries p) ++ (entries_from s p.disclosed (retained_entries retained) ++ entries_from s (p.disclosed || retained) (topic_entries with_topic p.topic))) ++ dict_closing s)
unfolding event_details
parts_of_details s p with_topic retained =
    whole_dict s (event_details p with_topic retained)
    ∙ ap (λ o. dict_opening s (entry_count (event_details p with_topic retained)) ++ (o ++ dict_closing s))
    (parts s p.disclosed p.publisher.id p.publisher.authid p.publisher.authrole p.topic with_topic retained)

both : (x y z : Bool) → (x && (y && z)) ≡ ((x && (y && true)) && z)
both true true z = refl
both true false z = refl
both false y z = refl

spelled_parts : (s : Serializer) (d : Bool) (id : ℕ) (authid authrole topic : List ℕ) (with_topic retained : Bool)
    → has_spelling s (dict (details_of d id authid authrole topic with_topic retained))
    ≡ (entries_have_spelling s (publisher_of d id authid authrole) && entries_have_spelling s (topic_entries with_topic topic))
unfolding put_if
spelled_parts Json d id a o topic t r = refl
spelled_parts MsgPack true id a o topic true true = both (has_short (text a)) (has_short (text o)) (has_short (text topic) && true)
spelled_parts MsgPack true id a o topic true false = both (has_short (text a)) (has_short (text o)) (has_short (text topic) && true)
spelled_parts MsgPack true id a o topic false true = both (has_short (text a)) (has_short (text o)) true
spelled_parts MsgPack true id a o topic false false = both (has_short (text a)) (has_short (text o)) true
spelled_parts MsgPack false id a o topic true true = refl
spelled_parts MsgPack false id a o topic true false = refl
spelled_parts MsgPack false id a o topic false true = refl
spelled_parts MsgPack false id a o topic false false = refl

pub spelling_of_details : (s : Serializer) (p : Publication) (with_topic retained : Bool)
    → has_spelling s (dict (event_details p with_topic retained)) ≡ (entries_have_spelling s (publisher_entries p) && entries_have_spelling s (topic_entries with_topic p.topic))
unfolding event_details
spelling_of_details s p with_topic retained = spelled_parts s p.disclosed p.publisher.id p.publisher.authid p.publisher.authrole p.topic with_topic retained
