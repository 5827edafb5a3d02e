-- A taking end, further and further on.
use Rattle.std.proofs.Common.{◌≤◌, ℕ, List, Option, Some, None, refl, sym, ◌∙◌, subst, arith}
use Rattle.atomic_table.specs.Seated.{TableId}
use Rattle.outbox_queue.specs.Ends.{Taking}
use Rattle.outbox_queue.specs.Rule.{Grows}
use Rattle.outbox_queue.specs.Outbox.{TakesOne}
use Rattle.connection.specs.Writer.{IsLater}

module _ {H : Type 0} (begins : H → H → Type 0) where
  grows_itself : (itself : (h : H) → begins h h) (h : Option H) → Grows begins h h
  grows_itself itself None = tt
  grows_itself itself (Some h) = itself h

  grows_on : (on : (h k l : H) → begins h k → begins k l → begins h l) (a b c : Option H) → Grows begins a b → Grows begins b c → Grows begins a c
  grows_on on None b c p q = tt
  grows_on on (Some h) None c p q = absurd p
  grows_on on (Some h) (Some k) None p q = absurd q
  grows_on on (Some h) (Some k) (Some l) p q = on h k l p q

module _ {T H : Type 0} (begins : H → H → Type 0) where
  pub same_is_later : (itself : (h : H) → begins h h) (d : Taking T H) → IsLater begins d d
  same_is_later itself d = record { queue = refl; capacity = refl; conn = refl; chronicle = refl; seen = grows_itself begins itself d.seen; finds = omega arith }

  pub later_still : (on : (h k l : H) → begins h k → begins k l → begins h l) (a b c : Taking T H) → IsLater begins a b → IsLater begins b c → IsLater begins a c
  later_still on a b c p q = record {
    queue = q.queue ∙ p.queue;
    capacity = q.capacity ∙ p.capacity;
    conn = q.conn ∙ p.conn;
    chronicle = q.chronicle ∙ p.chronicle;
    seen = grows_on begins on a.seen b.seen c.seen p.seen q.seen;
    finds = omega (arith, p.finds, q.finds);
  }

module _ {T H : Type 0} (begins : H → H → Type 0) (owed : H → ℕ → List T) (is_of : H → TableId → Type 0) where
  pub taking_is_later : (d e : Taking T H) (x : T) → TakesOne begins owed is_of d x e → d.empty_finds ≤ e.empty_finds → IsLater begins d e
  taking_is_later d e x t finds = record {
    queue = t.5;
    capacity = t.6;
    conn = t.7;
    chronicle = t.8;
    seen = subst (λ h. Grows begins d.seen h) (sym t.1) t.2;
    finds = finds;
  }
