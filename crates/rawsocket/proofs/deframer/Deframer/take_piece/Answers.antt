use Rattle.std.proofs.Common.{◌≡◌, ◌-◌, ◌++◌, [], length, take, drop, refl, ap, ◌∙◌, sym, subst, arith, length-append}
use Rattle.std.proofs.lemmas.List.{append-nil, length-take-le}
use Rattle.rawsocket.specs.Frames.{Content, spelled}
use Rattle.rawsocket.specs.Deframer.{Deframing}
use Rattle.rawsocket.proofs.Stream.{header_then, header_begun, begun_short, no_payload, whole_view, stays_before_header, stays_at_fault, stays_unfinished, goes_on, of_same_limit, payload_fits, payload_is}
use Rattle.rawsocket.proofs.deframer.Deframer.take_piece.Goals as goal

pub returns-then-have-lt4-clause-held : goal.returns-then-have-lt4-clause-held
returns-then-have-lt4-clause-held c =
    let i = c.self.inside in
    let e = c.filled-have.ensures in
    let lt = c.if-have-lt4.true in
    let is = header_begun c.self.inside.most i.header i.have i.payload.items c.filled-have.result.0 c.filled-have.result.1 c.filled-have.result.2.now c.args.piece.now c.args.self.now.held c.self.invariant (ap (λ (d : Deframing). d.held) c.self.view_is) lt e.grows (e.all lt) e.octets in
    let none : i.payload.items ≡ [] = c.self.invariant.filling (omega (arith, e.grows, lt)) in
    of_same_limit _ _ _ _ _ (ap (λ (d : Deframing). d.most) c.self.view_is) (stays_before_header c.self.inside.most _ _ _ (begun_short c.filled-have.result.0 c.filled-have.result.1 i.payload.items _ lt none is) is refl)

pub returns-in-Err-clause-held : goal.returns-in-Err-clause-held
returns-in-Err-clause-held c =
    let i = c.self.inside in
    let e = c.filled-have.ensures in
    let h = c.filled-have.result.0 in
    let is = header_then c.self.inside.most i.header i.have i.payload.items h c.filled-have.result.1 c.filled-have.result.2.now c.args.piece.now c.args.self.now.held c.self.invariant (ap (λ (d : Deframing). d.held) c.self.view_is) e.four e.within c.if-have-lt4.false e.octets e.same in
    let none : i.payload.items ≡ [] = no_payload c.self.inside.most i.header i.have i.payload.items h c.in-Err.field-0 c.self.invariant e.same c.in-Err.ensures.err in
    of_same_limit _ _ _ _ _ (ap (λ (d : Deframing). d.most) c.self.view_is) (stays_at_fault c.self.inside.most h i.payload.items _ _ _ _ c.in-Err.field-0 e.four is c.in-Err.ensures.err (whole_view h i.payload.items h e.four (sym (append-nil h) ∙ ap (λ q. h ++ q) (sym none))) refl)

pub returns-then-rest-missing-clause-held : goal.returns-then-rest-missing-clause-held
returns-then-rest-missing-clause-held c =
    let i = c.self.inside in
    let e = c.filled-have.ensures in
    let h = c.filled-have.result.0 in
    let r = c.filled-have.result.2.now in
    let is = header_then c.self.inside.most i.header i.have i.payload.items h c.filled-have.result.1 c.filled-have.result.2.now c.args.piece.now c.args.self.now.held c.self.invariant (ap (λ (d : Deframing). d.held) c.self.view_is) e.four e.within c.if-have-lt4.false e.octets e.same in
    let grown : c.grow.new.payload.items ≡ i.payload.items ++ r = c.in_ok-grow.ensures.ok in
    let view : take 4 h ++ c.grow.new.payload.items ≡ c.args.self.now.held ++ c.args.piece.now = whole_view h _ _ e.four (is ∙ ap (λ q. h ++ q) (sym grown)) in
    of_same_limit _ _ _ _ _ (ap (λ (d : Deframing). d.most) c.self.view_is) (stays_unfinished c.self.inside.most h (i.payload.items ++ r) _ _ _ e.four is c.in-Ok.ensures.ok (omega (arith, length-append i.payload.items r, c.in-Ok.ensures.len, c.len.ensures, c.if-rest-missing.true)) view refl)

pub returns-clause-whole : goal.returns-clause-whole
returns-clause-whole c =
    let i = c.self.inside in
    let e = c.filled-have.ensures in
    let h = c.filled-have.result.0 in
    let r = c.filled-have.result.2.now in
    let is = header_then c.self.inside.most i.header i.have i.payload.items h c.filled-have.result.1 c.filled-have.result.2.now c.args.piece.now c.args.self.now.held c.self.invariant (ap (λ (d : Deframing). d.held) c.self.view_is) e.four e.within c.if-have-lt4.false e.octets e.same in
    let fits = payload_fits c.self.inside.most i.header i.have i.payload.items h c.in-Ok.head.1 c.self.invariant e.same c.in-Ok.ensures.ok c.in-Ok.ensures.len in
    let on = goes_on h i.payload.items r (c.args.self.now.held ++ c.args.piece.now) c.split_at.result.0.now c.split_at.result.1.now c.in-Ok.head.0 c.in-Ok.head.1 (c.in-Ok.head.1 - c.len.result) c.in-Ok.ensures.spelled is (omega (arith, fits, c.len.ensures))
    (omega (arith, c.if-rest-missing.false)) c.split_at.ensures.front c.split_at.ensures.back in
    let p = payload_is c.self.inside.most i.header i.have i.payload.items c.args.self.now.held c.self.invariant (ap (λ (d : Deframing). d.held) c.self.view_is) in
    subst (λ p. let whole : Content = record { kind = c.in-Ok.head.0; payload = p ++ c.split_at.result.0.now } in c.args.self.now.held ++ c.args.piece.now ≡ spelled whole ++ c.split_at.result.1.now) p on

pub returns-clause-fits : goal.returns-clause-fits
returns-clause-fits c =
    let i = c.self.inside in
    let e = c.filled-have.ensures in
    let h = c.filled-have.result.0 in
    let fits = payload_fits c.self.inside.most i.header i.have i.payload.items h c.in-Ok.head.1 c.self.invariant e.same c.in-Ok.ensures.ok c.in-Ok.ensures.len in
    let p = payload_is c.self.inside.most i.header i.have i.payload.items c.args.self.now.held c.self.invariant (ap (λ (d : Deframing). d.held) c.self.view_is) in
    omega (arith, ap (λ (d : Deframing). d.most) c.self.view_is, fits, ap length (sym p), length-append (drop 4 c.args.self.now.held) c.split_at.result.0.now, c.in-Ok.ensures.bound, c.len.ensures, ap length c.split_at.ensures.front, length-take-le (c.in-Ok.head.1 - c.len.result) c.filled-have.result.2.now (omega (arith, c.if-rest-missing.false)))
