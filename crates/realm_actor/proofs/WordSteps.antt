-- Words that are given one after another.
use Rattle.std.proofs.Common.{◌≡◌, ℕ, List, [], ◌++◌, append_assoc, append-nil}
use Rattle.realm_actor.specs.Words.{Words, ◌⊕◌}

pub none_more : (words : Words) → (words ⊕ []) ≡ words
none_more words i = record { is_counting = words.is_counting; given = append-nil words.given i }

pub more_on : (words : Words) (first second : List ℕ) → ((words ⊕ first) ⊕ second) ≡ (words ⊕ (first ++ second))
more_on words first second i = record { is_counting = words.is_counting; given = append_assoc words.given first second i }
