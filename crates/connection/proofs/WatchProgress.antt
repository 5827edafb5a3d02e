-- What is told of items, one after another, and how that ends.
use Rattle.std.proofs.Common.{◌≡◌, ℕ, List, [], ◌∷◌, ◌++◌, Option, Some, refl, sym, ap, ◌∙◌, append_assoc, append-nil, inl, inr}
use Rattle.std.proofs.lemmas.Grind.{flat_map-append}
use Rattle.session.specs.declared.fault.Fault.{Fault}
use Rattle.session.specs.declared.fault.Fault.TheVariants as fault
use Rattle.wamp_messages.specs.declared.item.Item.{Item}
use Rattle.connection.specs.Watch.{Notice, Taken, Written, GivenUp, notices_of, given_up, AreTold, AreToldButLast, AreToldSoFar, AreToldBy, TellsSince}
use Rattle.connection.specs.body.Watch.{IsWhy, GivesUp}
use Rattle.connection.specs.body.Writer.{Output, EndsBetween, EndsWith}
use Rattle.connection.specs.declared.writer.WriteEnd.{WriteEnd}
use Rattle.connection.specs.declared.writer.WriteEnd.TheVariants.{Stopped, Full, Lost, Dropped, Device, TooLong, NoMemory, TooManyTurns}

-- an item is given up
pub gives_up : (f : Fault) (end : WriteEnd) (item : Item) (told now : List Notice) (before : Output) (written : List ℕ) → EndsWith f end before written → now ≡ told ++ GivenUp item f ∷ [] → GivesUp end item told now
gives_up f Stopped item told now before written e is = absurd e
gives_up f Full item told now before written e is = absurd e
gives_up f Lost item told now before written e is = absurd e
gives_up f Dropped item told now before written e is = absurd e
gives_up f TooLong item told now before written e is = record { fault = Some f; why = ap Some e.0; told = is }
gives_up f NoMemory item told now before written e is = record { fault = Some f; why = ap Some e.0; told = is }
gives_up f Device item told now before written e is = record { fault = Some f; why = tt; told = is }
gives_up f TooManyTurns item told now before written e is = record { fault = Some f; why = tt; told = is }

none_in_hand : (end : WriteEnd) (before : Output) (now : List ℕ) → EndsBetween end before now → AreToldBy end [] []
none_in_hand Stopped before now e = refl
none_in_hand Full before now e = refl
none_in_hand Lost before now e = refl
none_in_hand Dropped before now e = refl
none_in_hand TooLong before now e = absurd e
none_in_hand NoMemory before now e = absurd e
none_in_hand Device before now e = inl refl
none_in_hand TooManyTurns before now e = inl refl

-- an end comes while no item is in hand
pub ends_untold : (end : WriteEnd) (taken later : List Item) (told : List Notice) (before : Output) (now : List ℕ) → later ≡ taken → EndsBetween end before now → TellsSince taken later told told (AreToldBy end)
ends_untold end taken later told before now took e =
    record { items = []; notices = []; took = took ∙ sym (append-nil taken); told = sym (append-nil told); given = none_in_hand end before now e }

last_untold : (end : WriteEnd) (item : Item) (fault : Option Fault) → IsWhy end fault → AreToldBy end (item ∷ []) (Taken item ∷ given_up item fault)
last_untold Stopped item fault why = absurd why
last_untold Full item fault why = absurd why
last_untold Lost item fault why = absurd why
last_untold Dropped item fault why = absurd why
last_untold TooLong item fault why = record { written = []; last = item; items_are = refl; notices_are = ap (λ f. Taken item ∷ given_up item f) why }
last_untold NoMemory item fault why = record { written = []; last = item; items_are = refl; notices_are = ap (λ f. Taken item ∷ given_up item f) why }
last_untold Device item fault why = inr (fault, record { written = []; last = item; items_are = refl; notices_are = refl })
last_untold TooManyTurns item fault why = inr (fault, record { written = []; last = item; items_are = refl; notices_are = refl })

-- or at an item
pub one_untold : (end : WriteEnd) (item : Item) (taken later : List Item) (told mid now : List Notice) → later ≡ taken ++ item ∷ [] → mid ≡ told ++ Taken item ∷ [] → GivesUp end item mid now → TellsSince taken later told now (AreToldBy end)
one_untold end item taken later told mid now took is g = record {
  items = item ∷ [];
  notices = Taken item ∷ given_up item g.fault;
  took = took;
  told = g.told ∙ ap (λ m. m ++ given_up item g.fault) is ∙ append_assoc told (Taken item ∷ []) (given_up item g.fault);
  given = last_untold end item g.fault g.why;
}

pub none_told : (taken : List Item) (told : List Notice) → TellsSince taken taken told told AreTold
none_told taken told = record { items = []; notices = []; took = sym (append-nil taken); told = sym (append-nil told); given = refl }

both : (a b : List Item) (x y : List Notice) → AreTold a x → AreTold b y → AreTold (a ++ b) (x ++ y)
both a b x y p q = ap (λ n. n ++ y) p ∙ ap (λ n. notices_of a ++ n) q ∙ sym (flat_map-append (λ item. Taken item ∷ Written item ∷ []) a b)

but_last : (fault : Option Fault) (a b : List Item) (x y : List Notice) → AreTold a x → AreToldButLast fault b y → AreToldButLast fault (a ++ b) (x ++ y)
but_last fault a b x y p q = record {
  written = a ++ q.written;
  last = q.last;
  items_are = ap (λ i. a ++ i) q.items_are ∙ sym (append_assoc a q.written (q.last ∷ []));
  notices_are = ap (λ n. x ++ n) q.notices_are ∙ sym (append_assoc x (notices_of q.written) (Taken q.last ∷ given_up q.last fault))
      ∙ ap (λ n. n ++ Taken q.last ∷ given_up q.last fault) (both a q.written x (notices_of q.written) p refl);
}

so_far : (a b : List Item) (x y : List Notice) → AreTold a x → AreToldSoFar b y → AreToldSoFar (a ++ b) (x ++ y)
so_far a b x y p (inl q) = inl (both a b x y p q)
so_far a b x y p (inr q) = inr (q.0, but_last q.0 a b x y p q.1)

joined : (end : WriteEnd) (a b : List Item) (x y : List Notice) → AreTold a x → AreToldBy end b y → AreToldBy end (a ++ b) (x ++ y)
joined Stopped a b x y p q = both a b x y p q
joined Full a b x y p q = both a b x y p q
joined Lost a b x y p q = both a b x y p q
joined Dropped a b x y p q = both a b x y p q
joined TooLong a b x y p q = but_last (Some fault.TooLongForClient) a b x y p q
joined NoMemory a b x y p q = but_last (Some fault.NoMemory) a b x y p q
joined Device a b x y p q = so_far a b x y p q
joined TooManyTurns a b x y p q = so_far a b x y p q

module _ (before now after : List Item) (told then last : List Notice) where
  -- one more item is told
  pub then_told : TellsSince before now told then AreTold → TellsSince now after then last AreTold → TellsSince before after told last AreTold
  then_told p q = record {
    items = p.items ++ q.items;
    notices = p.notices ++ q.notices;
    took = q.took ∙ ap (λ t. t ++ q.items) p.took ∙ append_assoc before p.items q.items;
    told = q.told ∙ ap (λ n. n ++ q.notices) p.told ∙ append_assoc told p.notices q.notices;
    given = both p.items q.items p.notices q.notices p.given q.given;
  }

  -- or the end comes
  pub then_over : (end : WriteEnd) → TellsSince before now told then AreTold → TellsSince now after then last (AreToldBy end) → TellsSince before after told last (AreToldBy end)
  then_over end p q = record {
    items = p.items ++ q.items;
    notices = p.notices ++ q.notices;
    took = q.took ∙ ap (λ t. t ++ q.items) p.took ∙ append_assoc before p.items q.items;
    told = q.told ∙ ap (λ n. n ++ q.notices) p.told ∙ append_assoc told p.notices q.notices;
    given = joined end p.items q.items p.notices q.notices p.given q.given;
  }
