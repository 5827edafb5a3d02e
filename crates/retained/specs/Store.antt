-- Of the publications that were to be retained, which ones are: the last of each topic.
use Rattle.std.specs.Prelude.{◌≡◌, ◌≤◌, ℕ, Bool, true, cond, not, ◌||◌, nat_lt, ⊤, List, [], ◌∷◌, length}
use Rattle.std.specs.List.{list_any, filter}
use Rattle.std.specs.Ordering.{nat_cmp, is_lt}
use Rattle.std.specs.Cmp.Lexicographic.{slice_cmp}
use Rattle.std.specs.Str.{bytes_eq}
use Rattle.wamp_messages.specs.declared.item.Publication.{Publication}

-- those of this topic, and those of the others
abbrev pub of_topic : List ℕ → List Publication → List Publication
of_topic topic ps = filter (λ p. bytes_eq p.topic topic) ps

abbrev pub without_topic : List ℕ → List Publication → List Publication
without_topic topic ps = filter (λ p. not (bytes_eq p.topic topic)) ps

-- of publications, the newest first: the last of each topic
abbrev pub last_of_each : List Publication → List Publication
last_of_each [] = []
last_of_each (p ∷ older) = p ∷ without_topic p.topic (last_of_each older)

-- one topic is before another, by ascending bytes
abbrev pub is_before : List ℕ → List ℕ → Bool
is_before one other = is_lt (slice_cmp nat_cmp one other)

-- the same in ascending bytes of the topics
abbrev pub put_by_topic : Publication → List Publication → List Publication
put_by_topic p [] = p ∷ []
put_by_topic p (q ∷ qs) = cond (is_before p.topic q.topic) (p ∷ q ∷ qs) (q ∷ put_by_topic p qs)

abbrev pub by_topic : List Publication → List Publication
by_topic [] = []
by_topic (p ∷ ps) = put_by_topic p (by_topic ps)

-- of publications that were to be retained, the newest first: what is
abbrev pub retained_of : List Publication → List Publication
retained_of kept = by_topic (last_of_each kept)

-- a publication of the topic is there
abbrev pub has_topic : List ℕ → List Publication → Bool
has_topic topic ps = list_any (λ p. bytes_eq p.topic topic) ps

-- after `kept`, one more of the topic may be retained: the topic is among those of `kept`, or these are fewer than 1,000
abbrev pub may_be_retained : List Publication → List ℕ → Bool
may_be_retained kept topic = has_topic topic kept || nat_lt (length (last_of_each kept)) 1000

-- as many topics as may have a retained publication have one
abbrev pub is_full : List Publication → Bool
is_full store = not (nat_lt (length store) 1000)

-- the same, of what is retained
abbrev pub has_room : List Publication → List ℕ → Bool
has_room store topic = has_topic topic store || nat_lt (length store) 1000

-- a store after p, which takes the place of what its topic had
abbrev pub set_topic : Publication → List Publication → List Publication
set_topic p store = put_by_topic p (without_topic p.topic store)

-- each topic once, in ascending bytes
abbrev pub IsBeforeAll : List ℕ → List Publication → Type 0
IsBeforeAll topic [] = ⊤
IsBeforeAll topic (q ∷ qs) = (is_before topic q.topic ≡ true) × IsBeforeAll topic qs

abbrev pub AreByTopic : List Publication → Type 0
AreByTopic [] = ⊤
AreByTopic (p ∷ ps) = IsBeforeAll p.topic ps × AreByTopic ps

-- what is true of each store
pub record IsStore (ps : List Publication) : Type 0 where
  pub ordered : AreByTopic ps
  pub few : length ps ≤ 1000
