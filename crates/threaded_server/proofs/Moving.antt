-- How streams come and go.
use Rattle.std.proofs.Common.{◌≡◌, ◌+◌, ℕ, List, [], ◌∷◌, ◌++◌, Option, None, Some, MatchOption, map, refl, sym, ap, ◌∙◌, append_assoc, append-nil, arith, length-append}
use Rattle.std.proofs.lemmas.List.{map-append}
use Rattle.threaded_server.specs.Lending.{Lending, returned, with_lent, with_refused, with_returned}
use Rattle.threaded_server.specs.Overs.{Books, GoesOver, Moves, after_of}
use Rattle.threaded_server.specs.declared.over.Gone.{Gone}

-- behind one another
joined : {A : Type 0} (xs ys zs more last : List A) → ys ≡ xs ++ more → zs ≡ ys ++ last → zs ≡ xs ++ (more ++ last)
joined xs ys zs more last e f = f ∙ ap (λ l. l ++ last) e ∙ append_assoc xs more last

module _ {I O S : Type 0} where
  -- nothing comes or goes
  pub moves_none : (now : Lending I O) (has : Books I O S) → Moves 0 now now has has
  moves_none now has = record {
    more = [];
    over = [];
    refused = 0;
    lent = sym (append-nil now.lent);
    lent_here = sym (append-nil has.lent);
    returned = sym (append-nil now.returned);
    over_here = sym (append-nil has.over);
    refused_more = omega arith;
    all_came = refl;
  }

  -- one thing after another
  pub moves_on : (m n : ℕ) (was between now : Lending I O) (had meanwhile has : Books I O S) → Moves m was between had meanwhile → Moves n between now meanwhile has → Moves (m + n) was now had has
  moves_on m n was between now had meanwhile has a b = record {
    more = a.more ++ b.more;
    over = a.over ++ b.over;
    refused = a.refused + b.refused;
    lent = joined was.lent between.lent now.lent a.more b.more a.lent b.lent;
    lent_here = joined had.lent meanwhile.lent has.lent a.more b.more a.lent_here b.lent_here;
    returned = joined was.returned between.returned now.returned (map after_of a.over) (map after_of b.over) a.returned b.returned ∙ ap (λ l. was.returned ++ l) (sym (map-append after_of a.over b.over));
    over_here = joined had.over meanwhile.over has.over a.over b.over a.over_here b.over_here;
    refused_more = omega (arith, a.refused_more, b.refused_more);
    all_came = omega (arith, a.all_came, b.all_came, length-append a.more b.more);
  }

  -- what is left of a stream that goes over is taken back
  pub taken_back : (now new : Lending I O) (has left : Books I O S) (gone : Option (Gone I O)) → left.lent ≡ has.lent → GoesOver has.over left.over gone
      → MatchOption gone (new ≡ now) (λ g. new ≡ with_returned now (returned g.source.last.value g.sink.last.value g.fate)) → Moves 0 now new has left
  taken_back now new has left None same over back = record {
    more = [];
    over = [];
    refused = 0;
    lent = ap (λ l. l.lent) back ∙ sym (append-nil now.lent);
    lent_here = same ∙ sym (append-nil has.lent);
    returned = ap (λ l. l.returned) back ∙ sym (append-nil now.returned);
    over_here = over ∙ sym (append-nil has.over);
    refused_more = ap (λ l. l.refused) back ∙ omega arith;
    all_came = refl;
  }
  taken_back now new has left (Some gone) same over back = record {
    more = [];
    over = over.over ∷ [];
    refused = 0;
    lent = ap (λ l. l.lent) back ∙ sym (append-nil now.lent);
    lent_here = same ∙ sym (append-nil has.lent);
    returned = ap (λ l. l.returned) back ∙ ap (λ h. now.returned ++ h ∷ []) (sym over.after);
    over_here = over.added;
    refused_more = ap (λ l. l.refused) back ∙ omega arith;
    all_came = refl;
  }

  -- a stream is lent
  pub is_lent : (now new : Lending I O) (has left : Books I O S) (halves : I × O) → new ≡ with_lent now halves → left.lent ≡ has.lent ++ halves ∷ [] → left.over ≡ has.over → Moves 1 now new has left
  is_lent now new has left halves lent here over = record {
    more = halves ∷ [];
    over = [];
    refused = 0;
    lent = ap (λ l. l.lent) lent;
    lent_here = here;
    returned = ap (λ l. l.returned) lent ∙ sym (append-nil now.returned);
    over_here = over ∙ sym (append-nil has.over);
    refused_more = ap (λ l. l.refused) lent ∙ omega arith;
    all_came = refl;
  }

  -- a stream is lent, and what is left of it is taken back at once where it isn't served
  pub admitted : (now lending new : Lending I O) (has left : Books I O S) (halves : I × O) (gone : Option (Gone I O)) → lending ≡ with_lent now halves → left.lent ≡ has.lent ++ halves ∷ [] → GoesOver has.over left.over gone
      → MatchOption gone (new ≡ lending) (λ g. new ≡ with_returned lending (returned g.source.last.value g.sink.last.value g.fate)) → Moves 1 now new has left
  admitted now lending new has left halves gone lent here over back =
      let between : Books I O S = record { lent = left.lent; over = has.over } in
      moves_on 1 0 now lending new has between left (is_lent now lending has between halves lent here refl) (taken_back lending new between left gone refl over back)

  -- a stream can't be taken apart
  pub not_taken_apart : (now new : Lending I O) (has : Books I O S) → new ≡ with_refused now → Moves 1 now new has has
  not_taken_apart now new has refused = record {
    more = [];
    over = [];
    refused = 1;
    lent = ap (λ l. l.lent) refused ∙ sym (append-nil now.lent);
    lent_here = sym (append-nil has.lent);
    returned = ap (λ l. l.returned) refused ∙ sym (append-nil now.returned);
    over_here = sym (append-nil has.over);
    refused_more = ap (λ l. l.refused) refused;
    all_came = refl;
  }
