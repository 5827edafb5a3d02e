-- What a session holds, and the numbers of subscriptions. (WAMP, "Subscribing and Unsubscribing", "Pattern-based Subscriptions".)
use Rattle.std.specs.Prelude.{ℕ, Bool, false, cond, not, ◌==◌, ◌&&◌, ◌||◌, ◌+◌, nat_lt, List, [], ◌∷◌, ◌++◌, length, None, Some, Ok, Err}
use Rattle.std.specs.declared.option.Option.{Option}
use Rattle.std.specs.declared.result.Result.{Result}
use Rattle.std.specs.List.{list_any, filter}
use Rattle.wamp_messages.specs.declared.subscribe_options.SubscribeOptions.{SubscribeOptions}
use Rattle.wamp_ids.specs.Pattern.{PatternText, is_pattern, same_pattern}
use Rattle.wamp_ids.specs.declared.pattern.Policy.{Policy}
use Rattle.realm.specs.declared.entry.Entry.TheVariants.{Said}
use Rattle.wamp_messages.specs.declared.said.Said.TheVariants.{Subscribe, Unsubscribe}
use Rattle.wamp_messages.specs.declared.item.Reason.{Reason}
use Rattle.wamp_messages.specs.declared.item.Reason.TheVariants.{InvalidArgument, InvalidUri, TooManySubscriptions}
use Rattle.realm.specs.History.{History, begun, ◌▷◌}
use Rattle.realm.specs.Sessions.{joined, ends}

-- the pattern that a SUBSCRIBE asks for, where its options and its text are well formed
abbrev pub pattern_by : Option Policy → Option Bool → List ℕ → Result PatternText Reason
pattern_by None flag text = Err InvalidArgument
pattern_by (Some policy) None text = Err InvalidArgument
pattern_by (Some policy) (Some flag) text = cond (is_pattern policy text) (Ok (record { policy = policy; text = text })) (Err InvalidUri)

abbrev pub pattern_of : SubscribeOptions → List ℕ → Result PatternText Reason
pattern_of options text = pattern_by options.policy options.get_retained text

-- Of the patterns that were opened, the newest first: the number of p is how many were opened up to and with the last opening of p.
abbrev pub number_among : List PatternText → PatternText → ℕ
number_among [] p = 0
number_among (q ∷ older) p = cond (same_pattern q p) (length older + 1) (number_among older p)

-- the openings with their numbers, ascending
abbrev pub numbered : List PatternText → List (ℕ × PatternText)
numbered [] = []
numbered (p ∷ older) = numbered older ++ (length older + 1, p) ∷ []

-- what one session holds, by ascending number, where `held` tells what it holds
abbrev pub held_among : (PatternText → Bool) → List PatternText → List (ℕ × PatternText)
held_among held opened = filter (λ s. held s.1 && number_among opened s.1 == s.0) (numbered opened)

-- there is room for a SUBSCRIBE of p by c: c holds p already, or it holds fewer than 256, and somebody holds p or fewer than 2^53 were opened
abbrev pub has_room : (ℕ → PatternText → Bool) → List PatternText → List ℕ → ℕ → PatternText → Bool
has_room holds opened conns c p =
    holds c p
    || (nat_lt (length (held_among (holds c) opened)) 256
    && (list_any (λ d. holds d p) conns || nat_lt (length opened) 9007199254740992))

-- a SUBSCRIBE is accepted where it is well formed and there is room
abbrev pub accepted_by : (PatternText → Bool) → Result PatternText Reason → Result PatternText Reason
accepted_by room (Err reason) = Err reason
accepted_by room (Ok p) = cond (room p) (Ok p) (Err TooManySubscriptions)

abbrev pub is_of : PatternText → Result PatternText Reason → Bool
is_of p (Err reason) = false
is_of p (Ok q) = same_pattern q p

abbrev pub if_new : (PatternText → Bool) → Result PatternText Reason → List PatternText
if_new held (Err reason) = []
if_new held (Ok p) = cond (held p) [] (p ∷ [])

unfoldable mutual
  -- c holds p after h: it subscribed to p, and neither unsubscribed nor ended since
  pub holds : History → ℕ → PatternText → Bool
  holds (begun grants) c p = false
  holds (h ▷ Said d word (Subscribe request options topic)) c p =
      holds h c p || (d == c && is_of p (accepted_by (has_room (holds h) (opened h) (joined h) d) (pattern_of options topic)))
  holds (h ▷ Said d word (Unsubscribe request n)) c p =
      holds h c p && not (d == c && number_among (opened h) p == n)
  holds (h ▷ e) c p = holds h c p && not (ends e c)

  -- the patterns that the entries of h opened, the newest first: those of accepted SUBSCRIBEs that nobody held before
  pub opened : History → List PatternText
  opened (begun grants) = []
  opened (h ▷ Said d word (Subscribe request options topic)) =
      if_new (λ p. list_any (λ c. holds h c p) (joined h)) (accepted_by (has_room (holds h) (opened h) (joined h) d) (pattern_of options topic)) ++ opened h
  opened (h ▷ e) = opened h

-- the subscription number of p
abbrev pub number : History → PatternText → ℕ
number h p = number_among (opened h) p

-- what c holds after h, with its numbers, ascending
abbrev pub held : History → ℕ → List (ℕ × PatternText)
held h c = held_among (holds h c) (opened h)

-- the answer to a SUBSCRIBE of c that comes after h
abbrev pub subscribed : History → ℕ → SubscribeOptions → List ℕ → Result PatternText Reason
subscribed h c options topic = accepted_by (has_room (holds h) (opened h) (joined h) c) (pattern_of options topic)

-- an UNSUBSCRIBE of n by c that comes after h is accepted: c holds a pattern of this number
abbrev pub holds_number : History → ℕ → ℕ → Bool
holds_number h c n = list_any (λ s. s.0 == n) (held h c)
