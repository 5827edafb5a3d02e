-- Lists as the octets of their parts.
use Rattle.std.proofs.Common.{◌≡◌, suc, [], ◌∷◌, ◌++◌, refl, sym, ap, ◌∙◌, append-nil}
use Rattle.message_tree.specs.Data.{Data, list, Items, no_items, item}
use Rattle.json_codec.specs.Encoder.{further_text}
use Rattle.json_codec.proofs.Lemmas.{list_text}
use Rattle.msgpack_codec.specs.Short.{item_count, items_short}
use Rattle.rawsocket.specs.declared.handshake.Serializer.{Serializer}
use Rattle.rawsocket.specs.declared.handshake.Serializer.TheVariants.{Json, MsgPack}
use Rattle.session.specs.body.SerializedParts.{list_opening, list_closing, further}
use Rattle.session.specs.Serializer.{serialized}

further_json : (ds : Items) → further_text ds ≡ further Json ds
further_json no_items = refl
further_json (item d ds) = ap (λ o. 44 ∷ (serialized Json d ++ o)) (further_json ds)

further_msgpack : (ds : Items) → items_short ds ≡ further MsgPack ds
further_msgpack no_items = refl
further_msgpack (item d ds) = ap (λ o. serialized MsgPack d ++ o) (further_msgpack ds)

-- a list by its parts
pub whole_list : (s : Serializer) (d : Data) (ds : Items)
    → serialized s (list (item d ds)) ≡ list_opening s (suc (item_count ds)) ++ (serialized s d ++ (further s ds ++ list_closing s))
whole_list Json d ds = list_text d ds ∙ ap (λ o. 91 ∷ (serialized Json d ++ (o ++ 93 ∷ []))) (further_json ds)
whole_list MsgPack d ds =
    ap (λ o. list_opening MsgPack (suc (item_count ds)) ++ (serialized MsgPack d ++ o)) (further_msgpack ds ∙ sym (append-nil (further MsgPack ds)))
