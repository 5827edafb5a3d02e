-- What a poster of a connection that has joined posts.
use Rattle.std.proofs.Common.{◌≡◌, ℕ, false, true≢false, sym, ap, ◌∙◌, List, [], ◌∷◌, ◌++◌, map, Some, Ok, Err, MatchResult, append_assoc, append-nil}
use Rattle.std.specs.declared.result.Result.{Result}
use Rattle.std.proofs.lemmas.List.{map-append}
use Rattle.realm_inbox.specs.declared.act.Act.{Act}
use Rattle.realm_inbox.specs.declared.ends.Poster.{Poster}
use Rattle.realm_inbox.specs.EndViews.{posted, posted_by, poster_conn, inbox_of_poster}
use Rattle.realm_inbox.specs.Joins.{is_join}
use Rattle.realm_inbox.specs.Posted.{Posted, with_acts}
use Rattle.realm_inbox.specs.Seats.{BringsOwn}

module _ {S : Type 0} where
  -- what is no Join brings nothing
  pub brings_nothing : (c : ℕ) (act : Act S) → is_join act ≡ false → BringsOwn c act
  brings_nothing c act other joining e = absurd (true≢false (sym (ap is_join e) ∙ other))

  same_posted : (p q : Posted S) → p.inbox ≡ q.inbox → p.conn ≡ q.conn → p.said ≡ q.said → p ≡ q
  same_posted p q inbox conn said =
      let a : p ≡ record { inbox = q.inbox; conn = p.conn; said = p.said } = ap (λ x. record { inbox = x; conn = p.conn; said = p.said }) inbox in
      let b : record { inbox = q.inbox; conn = p.conn; said = p.said } ≡ record { inbox = q.inbox; conn = q.conn; said = p.said } = ap (λ x. record { inbox = q.inbox; conn = x; said = p.said }) conn in
      a ∙ b ∙ ap (λ x. record { inbox = q.inbox; conn = q.conn; said = x }) said

  -- nothing more
  pub with_none : (p : Posted S) → with_acts p [] ≡ p
  with_none p = ap (λ x. record { inbox = p.inbox; conn = p.conn; said = x }) (append-nil p.said)

  -- some, and then more
  pub with_both : (p : Posted S) (acts more : List (Act S)) → with_acts (with_acts p acts) more ≡ with_acts p (acts ++ more)
  with_both p acts more =
      let of : Act S → ℕ × Act S = λ act. (p.conn, act) in
      ap (λ x. record { inbox = p.inbox; conn = p.conn; said = x }) (append_assoc p.said (map of acts) (map of more) ∙ ap (λ x. p.said ++ x) (sym (map-append of acts more)))

  -- a poster posts, and stays at its place
  pub posts_on : (r : Result Unit (Act S)) (act : Act S) (p q : Poster S)
      → MatchResult r (λ done. posted q ≡ posted p ++ (poster_conn p, act) ∷ []) (λ back. (back ≡ act) × (posted q ≡ posted p))
      → (poster_conn q ≡ poster_conn p) × (inbox_of_poster q ≡ inbox_of_poster p)
      → MatchResult r (λ done. posted_by q ≡ with_acts (posted_by p) (act ∷ [])) (λ back. (back ≡ act) × (posted_by q ≡ posted_by p))
  posts_on (Ok done) act p q e same = same_posted (posted_by q) (with_acts (posted_by p) (act ∷ [])) (ap Some same.1) same.0 e
  posts_on (Err back) act p q e same = (e.0, same_posted (posted_by q) (posted_by p) (ap Some same.1) same.0 e.1)
