-- A replay in the midst of its input, with what was read and written so far.
use Rattle.std.proofs.Common.{◌≡◌, ℕ, ◌+◌, ◌*◌, ◌<◌, ◌≤◌, Bool, false, true, List, [], ◌∷◌, ◌++◌, length, length-append, get_or, refl, sym, ap, ◌∙◌, append_assoc, append-nil, subst, inl, inr, arith}
use Rattle.rawsocket.specs.Devices.{GrowsByBeginning}
use Rattle.rawsocket.proofs.Lemmas.{nothing_grown, grown_further}
use Rattle.replay.specs.Lines.{joined, lines_of}
use Rattle.replay.specs.Progress.{Completes, Goes, IsAllTold, IsBadAt, IsToldOf, IsWhole, Stops, ReplayInput}
use Rattle.realm.specs.Grants.{Grants}
use Rattle.replay.specs.Outcome.{BeginsReplay, FromRealm, IsFresh, IsReplayed, StopsAt, Streams}
use Rattle.replay.specs.Transcript.{IsTranscript, Replay, nothing, starting}
use Rattle.replay.proofs.TranscriptSteps.{count-le}

-- with so many turns left to read, in pieces of 2^16 octets
pub record Midst (t u : ReplayInput) (given_before given taken_before taken : List ℕ) (turns : ℕ) : Type 0 where
  pub input : List ℕ
  pub written : List ℕ
  pub read : given ≡ given_before ++ input
  pub wrote : taken ≡ taken_before ++ written
  pub told : IsToldOf t.replay input written u
  pub bound : length input + 65536 * turns ≤ 281474976710656

pub Midst-start : (t : ReplayInput) (given taken : List ℕ) → IsFresh t → Midst t t given given taken taken 4294967296
Midst-start t given taken fresh = record {
  input = [];
  written = [];
  read = sym (append-nil given);
  wrote = sym (append-nil taken);
  told = record {
    lines = [];
    split = sym fresh.rest;
    lines_clean = tt;
    rest_clean = rw fresh.rest refl;
    count = fresh.count;
    transcript = subst (λ o. IsTranscript t.replay [] t.replay o) (sym fresh.out) nothing;
  };
  bound = omega arith;
}

module _ (t u : ReplayInput) (given_before given taken_before taken : List ℕ) (turns : ℕ) (midst : Midst t u given_before given taken_before taken turns) where
  -- there is room for the count of the next lines
  pub Midst-count : (turns_left n : ℕ) → turns ≡ turns_left + 1 → n ≤ 65536 → u.count + n + 1 < 18446744073709551616
  Midst-count turns_left n spent small =
      let few : u.count ≤ length midst.input = count-le t.replay midst.input midst.written u midst.told in
      let bound : length midst.input + 65536 * turns ≤ 281474976710656 = midst.bound in
      omega arith

  -- and of the last one
  pub Midst-last : u.count + 1 < 18446744073709551616
  Midst-last =
      let few : u.count ≤ length midst.input = count-le t.replay midst.input midst.written u midst.told in
      let bound : length midst.input + 65536 * turns ≤ 281474976710656 = midst.bound in
      omega arith

  pub Midst-fed : (v : ReplayInput) (piece given_after : List ℕ) (turns_left : ℕ) → given_after ≡ given ++ piece → length piece ≤ 65536 → turns ≡ turns_left + 1 → Goes u piece v
      → Midst t v given_before given_after taken_before taken turns_left
  Midst-fed v piece given_after turns_left more small spent goes =
      let bound : length midst.input + 65536 * turns ≤ 281474976710656 = midst.bound in
      let long : length (midst.input ++ piece) ≡ length midst.input + length piece = length-append midst.input piece in
      record {
        input = midst.input ++ piece;
        written = midst.written;
        read = more ∙ (ap (λ g. g ++ piece) midst.read ∙ append_assoc given_before midst.input piece);
        wrote = midst.wrote;
        told = goes t.replay midst.input midst.written midst.told;
        bound = omega arith;
      }

  pub Midst-written : (v : ReplayInput) (taken_after : List ℕ) → taken_after ≡ taken ++ u.out → v ≡ record u { out = [] } → Midst t v given_before given taken_before taken_after turns
  Midst-written v taken_after more emptied = rw emptied (record {
    input = midst.input;
    written = midst.written ++ u.out;
    read = midst.read;
    wrote = more ∙ (ap (λ w. w ++ u.out) midst.wrote ∙ append_assoc taken_before midst.written u.out);
    told = record {
      lines = midst.told.lines;
      split = midst.told.split;
      lines_clean = midst.told.lines_clean;
      rest_clean = midst.told.rest_clean;
      count = midst.told.count;
      transcript = subst (λ o. IsTranscript t.replay midst.told.lines u.replay o) (sym (append-nil (midst.written ++ u.out))) midst.told.transcript;
    };
    bound = midst.bound;
  })

  pub Midst-all : (v : ReplayInput) → Completes u v → IsReplayed t.replay (record { given_before = given_before; given = given; taken_before = taken_before; taken = taken }) v.out
  Midst-all v completes = record {
    input = midst.input;
    written = midst.written;
    read = midst.read;
    wrote = midst.wrote;
    told = completes t.replay midst.input midst.written midst.told;
  }

  pub Midst-stops : (v : ReplayInput) (piece given_after : List ℕ) (ended : Bool) (k : ℕ) → given_after ≡ given ++ piece → Stops u piece ended k v → StopsAt t.replay (record { given_before = given_before; given = given_after; taken_before = taken_before; taken = taken }) ended v.out k
  Midst-stops v piece given_after ended k more stops = record {
    input = midst.input ++ piece;
    written = midst.written;
    read = more ∙ (ap (λ g. g ++ piece) midst.read ∙ append_assoc given_before midst.input piece);
    wrote = midst.wrote;
    bad = stops t.replay midst.input midst.written midst.told;
  }

  -- of what the lines give that were told a beginning was written, and more octets were read
  pub Midst-begun : (piece given_after taken_after : List ℕ) (ended : Bool) → given_after ≡ given ++ piece → GrowsByBeginning taken taken_after u.out
      → BeginsReplay t.replay (record { given_before = given_before; given = given_after; taken_before = taken_before; taken = taken_after }) ended
  Midst-begun piece given_after taken_after ended more grown = record {
    input = midst.input ++ piece;
    lines = midst.told.lines;
    next = u.replay;
    out = midst.written ++ u.out;
    read = more ∙ (ap (λ g. g ++ piece) midst.read ∙ append_assoc given_before midst.input piece);
    whole = inl (record {
      rest = u.rest ++ piece;
      split = ap (λ i. i ++ piece) midst.told.split ∙ append_assoc (joined midst.told.lines) u.rest piece;
      clean = midst.told.lines_clean;
    });
    transcript = midst.told.transcript;
    wrote = grown_further taken_before taken taken_after midst.written u.out midst.wrote grown;
  }

whole-weaker : (bad rest : List ℕ) (ended : Bool) → IsWhole bad rest false → IsWhole bad rest ended
whole-weaker bad [] ended (inl long) = inl long
whole-weaker bad [] ended (inr never) = let over : false ≡ true = never.0 in absurd (cc)
whole-weaker bad (c ∷ rest) ended whole = whole

-- a line that is bad before the end is bad
pub StopsAt-weaker : (start : Replay) (s : Streams) (left : List ℕ) (ended : Bool) (k : ℕ) → StopsAt start s false left k → StopsAt start s ended left k
StopsAt-weaker start s left ended k at = record {
  input = at.input;
  written = at.written;
  read = at.read;
  wrote = at.wrote;
  bad = record {
    good = at.bad.good;
    bad = at.bad.bad;
    rest = at.bad.rest;
    split = at.bad.split;
    good_clean = at.bad.good_clean;
    bad_clean = at.bad.bad_clean;
    whole = whole-weaker at.bad.bad at.bad.rest ended at.bad.whole;
    is_bad = at.bad.is_bad;
    place = at.bad.place;
    next = at.bad.next;
    transcript = at.bad.transcript;
  };
}

-- what is left is written
pub IsReplayed-written : (start : Replay) (s : Streams) (left taken_after : List ℕ) → taken_after ≡ s.taken ++ left
    → IsReplayed start s left → IsReplayed start (record s { taken = taken_after }) []
IsReplayed-written start s left taken_after more all = record {
  input = all.input;
  written = all.written ++ left;
  read = all.read;
  wrote = more ∙ (ap (λ w. w ++ left) all.wrote ∙ append_assoc s.taken_before all.written left);
  told = subst (λ o. IsAllTold start all.input o) (sym (append-nil (all.written ++ left))) all.told;
}

pub StopsAt-written : (start : Replay) (s : Streams) (left taken_after : List ℕ) (ended : Bool) (k : ℕ) → taken_after ≡ s.taken ++ left
    → StopsAt start s ended left k → StopsAt start (record s { taken = taken_after }) ended [] k
StopsAt-written start s left taken_after ended k more at = record {
  input = at.input;
  written = at.written ++ left;
  read = at.read;
  wrote = more ∙ (ap (λ w. w ++ left) at.wrote ∙ append_assoc s.taken_before at.written left);
  bad = subst (λ o. IsBadAt start at.input ended k o) (sym (append-nil (at.written ++ left))) at.bad;
}

-- nothing was read, and nothing written
pub begun-start : (start : Replay) (given taken : List ℕ) (ended : Bool) → BeginsReplay start (record { given_before = given; given = given; taken_before = taken; taken = taken }) ended
begun-start start given taken ended = record {
  input = [];
  lines = [];
  next = start;
  out = [];
  read = sym (append-nil given);
  whole = inl (record { rest = []; split = refl; clean = tt });
  transcript = nothing;
  wrote = nothing_grown taken taken [] refl;
}

-- of what is left a beginning is written
pub IsReplayed-begun : (start : Replay) (s : Streams) (left taken_after : List ℕ) (ended : Bool) → ended ≡ true → GrowsByBeginning s.taken taken_after left
    → IsReplayed start s left → BeginsReplay start (record s { taken = taken_after }) ended
IsReplayed-begun start s left taken_after ended at_end grown all = record {
  input = all.input;
  lines = lines_of all.input;
  next = all.told.next;
  out = all.written ++ left;
  read = all.read;
  whole = inr (at_end, refl);
  transcript = all.told.transcript;
  wrote = grown_further s.taken_before s.taken taken_after all.written left all.wrote grown;
}

pub StopsAt-begun : (start : Replay) (s : Streams) (left taken_after : List ℕ) (ended : Bool) (k : ℕ) → GrowsByBeginning s.taken taken_after left
    → StopsAt start s ended left k → BeginsReplay start (record s { taken = taken_after }) ended
StopsAt-begun start s left taken_after ended k grown at = record {
  input = at.input;
  lines = at.bad.good;
  next = at.bad.next;
  out = at.written ++ left;
  read = at.read;
  whole = inl (record { rest = at.bad.bad ++ at.bad.rest; split = at.bad.split; clean = at.bad.good_clean });
  transcript = at.bad.transcript;
  wrote = grown_further s.taken_before s.taken taken_after at.written left at.wrote grown;
}

pub from-any : (realms : List (List ℕ)) (grants : Grants) (P : Replay → Type 0) → ((start : Replay) → P start) → FromRealm realms grants P
from-any [] grants P all = tt
from-any (r ∷ realms) grants P all = all (starting grants r)

pub from-realm : (realms : List (List ℕ)) (grants : Grants) (P : Replay → Type 0) (realm : List ℕ) → realm ≡ get_or realms 0 realm → 0 < length realms → P (starting grants realm)
    → FromRealm realms grants P
from-realm [] grants P realm is some p = absurd (omega arith)
from-realm (r ∷ realms) grants P realm is some p = subst (λ x. P (starting grants x)) is p
