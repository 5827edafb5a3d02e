-- Lines of output, one after another.
use Rattle.std.proofs.Common.{◌≡◌, ◌≢◌, refl, ℕ, ◌+◌, ◌<◌, List, [], ◌∷◌, ◌++◌, take, length, get_or, sym, ap, ◌∙◌, append_assoc, append-nil}
use Rattle.std.proofs.lemmas.List.{take_more}
use Rattle.std.proofs.lemmas.Grind.{flat_map-append}
use Rattle.rawsocket.specs.declared.handshake.Serializer.TheVariants.{Json}
use Rattle.wamp_messages.specs.declared.item.Item.{Item}
use Rattle.wamp_messages.specs.declared.item.Item.TheVariants.{Welcome, Abort, Goodbye, Error, Published, Subscribed, Unsubscribed, Event, Pong}
use Rattle.session.specs.ItemFrames.{frame_of}
use Rattle.session.specs.ToClient.{message_of}
use Rattle.replay.specs.Transcript.{item_text, printed, printed_all}

pub printed-append : (old digits line : List ℕ) → ((old ++ digits) ++ 32 ∷ []) ++ line ++ 10 ∷ [] ≡ old ++ (digits ++ 32 ∷ line ++ 10 ∷ [])
printed-append old digits line = simp append_assoc

-- one item more
pub printed_all-more : (given : List (ℕ × Item)) (i : ℕ) (g : ℕ × Item) → i < length given → g ≡ get_or given i g
    → printed_all (take (i + 1) given) ≡ printed_all (take i given) ++ printed g.0 (item_text (message_of g.1))
printed_all-more given i g small is =
    ap printed_all (take_more given i g small ∙ ap (λ x. take i given ++ x ∷ []) (sym is))
    ∙ (flat_map-append (λ x. printed x.0 (item_text (message_of x.1))) (take i given) (g ∷ [])
    ∙ ap (λ l. printed_all (take i given) ++ l) (append-nil (printed g.0 (item_text (message_of g.1)))))

-- the payload of what isn't a PONG is its text
pub payload_is_text : (item : Item) → ((octets : List ℕ) → item ≢ Pong octets) → (frame_of Json item).payload ≡ item_text (message_of item)
payload_is_text (Welcome who) other = refl
payload_is_text (Abort reason) other = refl
payload_is_text (Goodbye reason) other = refl
payload_is_text (Error kind request reason) other = refl
payload_is_text (Published request publication) other = refl
payload_is_text (Subscribed request subscription) other = refl
payload_is_text (Unsubscribed request) other = refl
payload_is_text (Event subscription publication with_topic retained) other = refl
payload_is_text (Pong octets) other = absurd (other octets refl)
