-- Who is to receive a publication.
use Rattle.std.specs.Prelude.{ℕ, ℤ, pos, negsuc, Bool, true, false, not, ◌==◌, ◌&&◌, ◌||◌, List, length, codes, None, Some, is_none}
use Rattle.std.specs.declared.option.Option.{Option}
use Rattle.std.specs.List.{list_any}
use Rattle.std.specs.Str.{bytes_eq}
use Rattle.message_tree.specs.Data.{Entries, find_entry}
use Rattle.eligibility.specs.Options.{flag_or, list_or_none, number_of, text_of}
use Rattle.eligibility.specs.declared.values.ListOptions.{ListOptions}
use Rattle.eligibility.specs.declared.who.Who.{Who}

-- the six lists of a PUBLISH, each where it is given, and whether its publisher is left out
pub record Audience : Type 0 where
  pub exclude_me : Bool
  pub exclude : Option (List ℤ)
  pub exclude_authid : Option (List (List ℕ))
  pub exclude_authrole : Option (List (List ℕ))
  pub eligible : Option (List ℤ)
  pub eligible_authid : Option (List (List ℕ))
  pub eligible_authrole : Option (List (List ℕ))

-- what a PUBLISH that gives none of the seven options says
abbrev pub everyone : Audience
everyone = record {
  exclude_me = true;
  exclude = None;
  exclude_authid = None;
  exclude_authrole = None;
  eligible = None;
  eligible_authid = None;
  eligible_authrole = None;
}

-- none of the six lists is given; one that names nobody is given too
abbrev pub has_no_lists : Audience → Bool
has_no_lists a =
    is_none a.exclude && is_none a.exclude_authid && is_none a.exclude_authrole
    && is_none a.eligible && is_none a.eligible_authid && is_none a.eligible_authrole

-- the list is given, and is empty
abbrev pub is_empty : {X : Type 0} → Option (List X) → Bool
is_empty None = false
is_empty (Some xs) = length xs == 0

-- one of the eligible lists is empty, so that nobody is admitted
abbrev pub names_nobody : Audience → Bool
names_nobody a = is_empty a.eligible || is_empty a.eligible_authid || is_empty a.eligible_authrole

abbrev pub is_number : ℕ → ℤ → Bool
is_number n (pos m) = m == n
is_number n (negsuc m) = false

abbrev pub has_number : ℕ → List ℤ → Bool
has_number n zs = list_any (is_number n) zs

abbrev pub has_text : List ℕ → List (List ℕ) → Bool
has_text s texts = list_any (λ t. bytes_eq t s) texts

-- the list isn't given, or hasn't got it
abbrev pub is_free_of : {X : Type 0} → (List X → Bool) → Option (List X) → Bool
is_free_of has None = true
is_free_of has (Some xs) = not (has xs)

-- the list isn't given, or has it
abbrev pub allows : {X : Type 0} → (List X → Bool) → Option (List X) → Bool
allows has None = true
allows has (Some xs) = has xs

-- this receiver is to get what that publisher publishes: all seven tests hold
abbrev pub admits : Audience → Who → Who → Bool
admits a w publisher =
    is_free_of (has_number w.id) a.exclude && is_free_of (has_text w.authid) a.exclude_authid && is_free_of (has_text w.authrole) a.exclude_authrole
    && allows (has_number w.id) a.eligible && allows (has_text w.authid) a.eligible_authid && allows (has_text w.authrole) a.eligible_authrole
    && not (w.conn == publisher.conn && a.exclude_me)

abbrev pub audience_by : Option Bool → Option (Option (List ℤ)) → Option (Option (List (List ℕ))) → Option (Option (List (List ℕ)))
    → Option (Option (List ℤ)) → Option (Option (List (List ℕ))) → Option (Option (List (List ℕ))) → Option Audience
audience_by (Some exclude_me) (Some exclude) (Some exclude_authid) (Some exclude_authrole) (Some eligible) (Some eligible_authid) (Some eligible_authrole) =
    Some (record {
      exclude_me = exclude_me;
      exclude = exclude;
      exclude_authid = exclude_authid;
      exclude_authrole = exclude_authrole;
      eligible = eligible;
      eligible_authid = eligible_authid;
      eligible_authrole = eligible_authrole;
    })
audience_by _ _ _ _ _ _ _ = None

-- what the seven options say, each where it is given; none where one has a wrong type
abbrev pub audience_of_values : ListOptions → Option Audience
audience_of_values o =
    audience_by (flag_or true o.exclude_me) (list_or_none number_of o.exclude) (list_or_none text_of o.exclude_authid) (list_or_none text_of o.exclude_authrole)
    (list_or_none number_of o.eligible) (list_or_none text_of o.eligible_authid) (list_or_none text_of o.eligible_authrole)

-- the seven options among those of a PUBLISH
abbrev pub found_in : Entries → ListOptions
found_in options = record {
  exclude_me = find_entry (codes "exclude_me") options;
  exclude = find_entry (codes "exclude") options;
  exclude_authid = find_entry (codes "exclude_authid") options;
  exclude_authrole = find_entry (codes "exclude_authrole") options;
  eligible = find_entry (codes "eligible") options;
  eligible_authid = find_entry (codes "eligible_authid") options;
  eligible_authrole = find_entry (codes "eligible_authrole") options;
}

-- what the options of a PUBLISH say of its receivers; none where one of the seven has a wrong type
unfoldable pub audience_of : Entries → Option Audience
audience_of options = audience_of_values (found_in options)
