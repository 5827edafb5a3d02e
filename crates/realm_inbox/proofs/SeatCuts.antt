-- One seat more behind those that were cut.
use Rattle.std.proofs.Common.{◌≡◌, ℕ, ◌+◌, ◌<◌, ◌⊎◌, ⊎_elim, List, [], ◌∷◌, ◌++◌, length, sym, ap, ◌∙◌, subst, arith, length-append, slice_index_or}
use Rattle.std.proofs.Math.ListN.{get_or-append}
use Rattle.std.proofs.Math.Seq.{get_or-append_seam}
use Rattle.realm_inbox.specs.declared.ends.Seat.{Seat}
use Rattle.realm_inbox.specs.Ends.{Place}
use Rattle.realm_inbox.specs.EndViews.{IsNewSeat, AreNewSeats}

below_or_last : (k n : ℕ) → k < n + 1 → (k < n) ⊎ (k ≡ n)
below_or_last k n b = search (b, arith)

module _ {S : Type 0} where
  pub seats_snoc : (old new : Place S) (seats longer : List (Seat S)) (seat : Seat S)
      → AreNewSeats old seats → IsNewSeat old (length seats + 1) seat → new ≡ old → longer ≡ seats ++ seat ∷ [] → AreNewSeats new longer
  seats_snoc old new seats longer seat are one same is k d below =
      let long : length (seats ++ seat ∷ []) ≡ length seats + 1 = length-append seats (seat ∷ []) in
      let short : k < length seats + 1 = subst (λ n. k < n) (ap length is ∙ long) below in
      let P : Seat S → Type 0 = λ s. IsNewSeat new (k + 1) s in
      subst (λ l. P (slice_index_or l k d)) (sym is) (subst (λ p. IsNewSeat p (k + 1) (slice_index_or (seats ++ seat ∷ []) k d)) (sym same)
      (⊎_elim
      (λ (b : k < length seats). subst (λ s. IsNewSeat old (k + 1) s) (sym (get_or-append seats (seat ∷ []) d k b)) (are k d b))
      (λ (e : k ≡ length seats). subst (λ n. IsNewSeat old (n + 1) (slice_index_or (seats ++ seat ∷ []) n d)) (sym e) (subst (λ s. IsNewSeat old (length seats + 1) s) (sym (get_or-append_seam seats seat [] d)) one))
      (below_or_last k (length seats) short)))
