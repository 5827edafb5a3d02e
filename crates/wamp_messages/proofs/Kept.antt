-- What the known options are once one more entry was walked over.
use Rattle.std.proofs.Common.{◌≡◌, ℕ, List, Bool, true, false, Some, codes, cond, refl, sym, ap, ◌∙◌}
use Rattle.std.specs.Str.{bytes_eq}
use Rattle.std.proofs.lemmas.Slice.Eq.{bytes_eq-Decides}
use Rattle.message_tree.specs.Data.{Data, Entries, put, find_entry}
use Rattle.message_tree.proofs.Entries.{find_entry-put, find_entry-put-other}
use Rattle.eligibility.specs.Lists.{found_in}
use Rattle.eligibility.specs.declared.values.ListOptions.{ListOptions}
use Rattle.wamp_messages.specs.body.Values.{publish_values_of, subscribe_values_of}
use Rattle.wamp_messages.specs.declared.publish_values.PublishValues.{PublishValues}
use Rattle.wamp_messages.specs.declared.subscribe_values.SubscribeValues.{SubscribeValues}

put-at : (b : Bool) (name k : List ℕ) (d : Data) (es : Entries) → bytes_eq k name ≡ b → find_entry name (put k d es) ≡ cond b (Some d) (find_entry name es)
put-at true name k d es same =
    let is : k ≡ name = (bytes_eq-Decides k name).0 same in
    ap (λ n. find_entry n (put k d es)) (sym is) ∙ find_entry-put k d es
put-at false name k d es other = find_entry-put-other name k d es (λ is.
    let same : bytes_eq k name ≡ true = (bytes_eq-Decides k name).1 (sym is) in
    let apart = sym other ∙ same in cc)

-- the value of a name, once a key was put
put-or : (name k : List ℕ) (d : Data) (es : Entries) → find_entry name (put k d es) ≡ cond (bytes_eq k name) (Some d) (find_entry name es)
put-or name k d es = put-at (bytes_eq k name) name k d es refl

pub same-text : (k name : List ℕ) → true ≡ bytes_eq k name → name ≡ k
same-text k name same = sym ((bytes_eq-Decides k name).0 (sym same))

-- ---- SUBSCRIBE

-- the values, with one more entry behind those among which they were found
abbrev pub subscribe_kept : List ℕ → Data → SubscribeValues → SubscribeValues
subscribe_kept k d v = record {
  policy = cond (bytes_eq k (codes "match")) (Some d) v.policy;
  get_retained = cond (bytes_eq k (codes "get_retained")) (Some d) v.get_retained;
}

pub subscribe-kept : (k : List ℕ) (d : Data) (es : Entries) (v : SubscribeValues) → v ≡ subscribe_values_of es → subscribe_kept k d v ≡ subscribe_values_of (put k d es)
subscribe-kept k d es v is =
    ap (subscribe_kept k d) is ∙ rw (put-or (codes "match") k d es, put-or (codes "get_retained") k d es) refl

-- with an entry of another name nothing is kept
pub subscribe-other : (k : List ℕ) (d : Data) (v : SubscribeValues) → false ≡ bytes_eq k (codes "match") → false ≡ bytes_eq k (codes "get_retained") → v ≡ subscribe_kept k d v
subscribe-other k d v first second = rw (← first, ← second) refl

-- ---- the seven options of a PUBLISH that say who receives

abbrev pub lists_kept : List ℕ → Data → ListOptions → ListOptions
lists_kept k d v = record {
  exclude_me = cond (bytes_eq k (codes "exclude_me")) (Some d) v.exclude_me;
  exclude = cond (bytes_eq k (codes "exclude")) (Some d) v.exclude;
  exclude_authid = cond (bytes_eq k (codes "exclude_authid")) (Some d) v.exclude_authid;
  exclude_authrole = cond (bytes_eq k (codes "exclude_authrole")) (Some d) v.exclude_authrole;
  eligible = cond (bytes_eq k (codes "eligible")) (Some d) v.eligible;
  eligible_authid = cond (bytes_eq k (codes "eligible_authid")) (Some d) v.eligible_authid;
  eligible_authrole = cond (bytes_eq k (codes "eligible_authrole")) (Some d) v.eligible_authrole;
}

pub lists-kept : (k : List ℕ) (d : Data) (es : Entries) (v : ListOptions) → v ≡ found_in es → lists_kept k d v ≡ found_in (put k d es)
lists-kept k d es v is =
    ap (lists_kept k d) is
    ∙ rw (put-or (codes "exclude_me") k d es, put-or (codes "exclude") k d es, put-or (codes "exclude_authid") k d es, put-or (codes "exclude_authrole") k d es, put-or (codes "eligible") k d es, put-or (codes "eligible_authid") k d es, put-or (codes "eligible_authrole") k d es) refl

pub lists-other : (k : List ℕ) (d : Data) (v : ListOptions)
    → false ≡ bytes_eq k (codes "exclude_me")
    → false ≡ bytes_eq k (codes "exclude")
    → false ≡ bytes_eq k (codes "exclude_authid")
    → false ≡ bytes_eq k (codes "exclude_authrole")
    → false ≡ bytes_eq k (codes "eligible")
    → false ≡ bytes_eq k (codes "eligible_authid")
    → false ≡ bytes_eq k (codes "eligible_authrole")
    → v ≡ lists_kept k d v
lists-other k d v n0 n1 n2 n3 n4 n5 n6 = rw (← n0, ← n1, ← n2, ← n3, ← n4, ← n5, ← n6) refl

-- ---- PUBLISH

abbrev pub publish_kept : List ℕ → Data → PublishValues → PublishValues
publish_kept k d v = record {
  acknowledge = cond (bytes_eq k (codes "acknowledge")) (Some d) v.acknowledge;
  disclose_me = cond (bytes_eq k (codes "disclose_me")) (Some d) v.disclose_me;
  retain = cond (bytes_eq k (codes "retain")) (Some d) v.retain;
  lists = lists_kept k d v.lists;
}

pub publish-kept : (k : List ℕ) (d : Data) (es : Entries) (v : PublishValues) → v ≡ publish_values_of es → publish_kept k d v ≡ publish_values_of (put k d es)
publish-kept k d es v is =
    ap (publish_kept k d) is
    ∙ rw (put-or (codes "acknowledge") k d es, put-or (codes "disclose_me") k d es, put-or (codes "retain") k d es, put-or (codes "exclude_me") k d es, put-or (codes "exclude") k d es, put-or (codes "exclude_authid") k d es, put-or (codes "exclude_authrole") k d es, put-or (codes "eligible") k d es, put-or (codes "eligible_authid") k d es, put-or (codes "eligible_authrole") k d es) refl

abbrev pub with_lists : ListOptions → PublishValues → PublishValues
with_lists lists v = record {
  acknowledge = v.acknowledge;
  disclose_me = v.disclose_me;
  retain = v.retain;
  lists = lists;
}

other-name : (name k : List ℕ) (d : Data) (es : Entries) → false ≡ bytes_eq k name → find_entry name es ≡ find_entry name (put k d es)
other-name name k d es other = sym (put-at false name k d es (sym other))

-- the other options stay where the key is none of theirs
pub publish-other : (k : List ℕ) (d : Data) (es : Entries) (v : PublishValues) (lists : ListOptions) → v ≡ publish_values_of es → lists ≡ found_in (put k d es)
    → false ≡ bytes_eq k (codes "acknowledge")
    → false ≡ bytes_eq k (codes "disclose_me")
    → false ≡ bytes_eq k (codes "retain")
    → with_lists lists v ≡ publish_values_of (put k d es)
publish-other k d es v lists is found n0 n1 n2 =
    ap (with_lists lists) is
    ∙ rw (found, other-name (codes "acknowledge") k d es n0, other-name (codes "disclose_me") k d es n1, other-name (codes "retain") k d es n2) refl
