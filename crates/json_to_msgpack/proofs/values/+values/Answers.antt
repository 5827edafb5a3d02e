use Rattle.std.proofs.Common.{◌≡◌, ℕ, suc, ◌-◌, List, ◌∷◌, length, option_map, refl, sym, ap, ◌∙◌, subst, arith}
use Rattle.std.proofs.lemmas.Grind.{common_steps}
use Rattle.std.proofs.lemmas.Result.{IfOk-weaker}
use Rattle.json.specs.Token as grammar
use Rattle.serde_json.specs.Data as json
use Rattle.json_to_msgpack.specs.declared.fit.Fit.{Fit}
use Rattle.json_to_msgpack.specs.declared.fit.Fit.TheVariants.{Within, Unreadable}
use Rattle.json_to_msgpack.specs.body.Keys.{key_octets, has_key}
use Rattle.json_to_msgpack.specs.body.Lexing.{IsTaken}
use Rattle.json_to_msgpack.specs.body.Values.{IsLeafTaken, IsValuePut, IsListOpen}
use Rattle.json_to_msgpack.proofs.Fits.{put_read, put_unread, dict_unread}
use Rattle.json_to_msgpack.proofs.ListSteps.{list_begun, list_step, list_broken, list_done, list_cut}
use Rattle.json_to_msgpack.proofs.DictSteps.{dict_begun, dict_step, dict_broken, dict_done, dict_cut}
use Rattle.json_to_msgpack.proofs.Wholes.{leaf_is_value, large_is_none, list_is_value, dict_is_value}
use Rattle.json_to_msgpack.proofs.values.+values.Goals as goal

-- by the tokens before, where their first is known
of_tokens : (fit : Fit) (level : ℕ) (old same new : List grammar.Token) (before after : List ℕ) → old ≡ same → IsValuePut fit level same new before after → IsValuePut fit level old new before after
of_tokens fit level old same new before after e h = subst (λ ts. IsValuePut fit level ts new before after) (sym e) h

pub put_dict-members-init : goal.put_dict-members-init
put_dict-members-init t c = dict_begun (has_key c.new-deep.result) c.args.level c.args.lexer.now c.args.out.now.items c.put.new.out.items c.new-deep.ensures c.in_ok-put.ensures

pub put_dict-returns-then-not-is_read-clause-ok : goal.put_dict-returns-then-not-is_read-clause-ok
put_dict-returns-then-not-is_read-clause-ok t c =
    let l = c.members in
    let fit = c.in_ok-fit.fit in
    let level = c.args.level in
    let old = c.args.lexer.now in
    let next = c.put_value.new.lexer in
    let same : c.take_end_object.new.self ≡ l.lexer = grind arith in
    let unread = sym c.if-not-is_read.ensures in
    let none = put_unread level c.put_key.new.lexer next c.put_key.new.out.items c.put_value.new.out.items fit unread c.in_ok-fit.ensures.ok in
    dict_unread level old next c.args.out.now.items c.put_value.new.out.items fit unread
    (dict_broken (has_key l.deep) (key_octets c.in_ok-key.key) level l.count old l.lexer c.put_key.new.lexer c.args.out.now.items l.out.items c.put_key.new.out.items l.invariant (rw (← same) c.in_ok-key.ensures) none)

pub put_dict-members-preserved : goal.put_dict-members-preserved
put_dict-members-preserved t c =
    let l = c.members in
    let fit = c.in_ok-fit.fit in
    let level = c.args.level in
    let behind = c.put_key.new.lexer in
    let next = c.put_value.new.lexer in
    let keyed = c.put_key.new.out.items in
    let after = c.put_value.new.out.items in
    let same : c.take_end_object.new.self ≡ l.lexer = grind arith in
    let added = put_read level behind next keyed after fit (sym c.if-not-is_read.ensures) c.in_ok-fit.ensures.ok in
    dict_step (has_key c.note.new.self) (has_key l.deep) fit (key_octets c.in_ok-key.key) level l.count c.in_ok-count.count c.args.lexer.now l.lexer behind next c.args.out.now.items l.out.items keyed after
    l.invariant (rw (← same) c.in_ok-key.ensures) added c.in_ok-fit.ensures.shorter (rw (← c.is_within.ensures) c.in_ok-note.ensures) c.in_ok-count.ensures

pub put_dict-returns-then-is_whole-clause-ok : goal.put_dict-returns-then-is_whole-clause-ok
put_dict-returns-then-is_whole-clause-ok t c =
    let l = c.members in
    let over : l.lexer ≡ grammar.end_object ∷ c.take_end_object.new.self = grind arith in
    let at : c.len-head.result ≡ length c.args.out.now.items = grind (arith, common_steps) in
    let done = c.in_ok-close_dict.ensures in
    dict_done (has_key l.deep) c.args.level l.count c.len-head.result c.args.lexer.now l.lexer c.take_end_object.new.self c.args.out.now.items l.out.items c.close_dict.new.out.items
    l.invariant over done.fits at c.if-is_whole.ensures.0 c.if-is_whole.ensures.1 done.items

pub put_dict-returns-clause-ok : goal.put_dict-returns-clause-ok
put_dict-returns-clause-ok t c =
    let l = c.members in
    let over : l.lexer ≡ grammar.end_object ∷ c.take_end_object.new.self = grind arith in
    let at : c.len-head.result ≡ length c.args.out.now.items = grind (arith, common_steps) in
    dict_cut (has_key l.deep) c.args.level l.count c.len-head.result c.args.lexer.now l.lexer c.take_end_object.new.self c.args.out.now.items l.out.items c.put_null_at.new.out.items
    l.invariant over at c.if-is_whole.ensures c.put_null_at.ensures

pub put_list-items-init : goal.put_list-items-init
put_list-items-init t c = list_begun _ c.args.level c.args.lexer.now c.args.out.now.items c.put.new.out.items refl c.in_ok-put.ensures

pub put_list-returns-in_default-clause-ok : goal.put_list-returns-in_default-clause-ok
put_list-returns-in_default-clause-ok t c =
    let l = c.items in
    let level = c.args.level in
    let same : c.take_end_array.new.self ≡ l.lexer = grind arith in
    let none = put_unread level l.lexer c.put_value.new.lexer l.out.items c.put_value.new.out.items c.in_ok-fit.fit c.in_default.ensures (rw (← same) c.in_ok-fit.ensures.ok) in
    list_broken l.within level l.count c.args.lexer.now l.lexer c.args.out.now.items l.out.items l.invariant none

pub put_list-items-preserved : goal.put_list-items-preserved
put_list-items-preserved t c =
    let l = c.items in
    let fit = c.in_ok-fit.fit in
    let next = c.put_value.new.lexer in
    let after = c.put_value.new.out.items in
    let same : c.take_end_array.new.self ≡ l.lexer = grind arith in
    let done = c.in_ok-fit.ensures in
    let still = c.in-Some.ensures in
    let added = put_read c.args.level l.lexer next l.out.items after fit still.0 (rw (← same) done.ok) in
    list_step l.within _ fit c.args.level l.count c.in_ok-count.count c.args.lexer.now l.lexer next c.args.out.now.items l.out.items after
    l.invariant added (rw (← same) done.shorter) still.1 c.in_ok-count.ensures

pub put_list-returns-then-within-clause-ok : goal.put_list-returns-then-within-clause-ok
put_list-returns-then-within-clause-ok t c =
    let l = c.items in
    let over : l.lexer ≡ grammar.end_array ∷ c.take_end_array.new.self = grind arith in
    let at : c.len-head.result ≡ length c.args.out.now.items = grind (arith, common_steps) in
    let done = c.in_ok-close_list.ensures in
    let list = subst (λ b. IsListOpen b c.args.level c.args.lexer.now l.lexer c.args.out.now.items l.out.items l.count) c.if-within.true l.invariant in
    list_done c.args.level l.count c.len-head.result c.args.lexer.now l.lexer c.take_end_array.new.self c.args.out.now.items l.out.items c.close_list.new.out.items list over done.fits at done.items

pub put_list-returns-clause-ok : goal.put_list-returns-clause-ok
put_list-returns-clause-ok t c =
    let l = c.items in
    let over : l.lexer ≡ grammar.end_array ∷ c.take_end_array.new.self = grind arith in
    let at : c.len-head.result ≡ length c.args.out.now.items = grind (arith, common_steps) in
    let list = subst (λ b. IsListOpen b c.args.level c.args.lexer.now l.lexer c.args.out.now.items l.out.items l.count) c.if-within.false l.invariant in
    list_cut c.args.level l.count c.len-head.result c.args.lexer.now l.lexer c.take_end_array.new.self c.args.out.now.items l.out.items c.put_null_at.new.out.items list over at c.put_null_at.ensures

pub put_value-returns-in-Some-clause-ok : goal.put_value-returns-in-Some-clause-ok
put_value-returns-in-Some-clause-ok t c =
    let ts = c.take_plain.new.self in
    let text = c.in-Some.text.now in
    let before = c.args.out.now.items in
    let after = c.put_string.new.out.items in
    of_tokens Within c.args.level _ _ ts before after c.in-Some.ensures
    (leaf_is_value c.args.level (grammar.string text) ts before after (record { leaf = json.string text; read = refl; added = c.in_ok-put_string.ensures }))

pub put_value-returns-in-Some-take_natural-clause-ok : goal.put_value-returns-in-Some-take_natural-clause-ok
put_value-returns-in-Some-take_natural-clause-ok t c =
    let ts = c.take_natural.new.self in
    let n = c.in-Some-take_natural.natural in
    let taken : IsTaken n c.args.lexer.now ts = subst (λ old. IsTaken n old ts) c.in_default.ensures c.in-Some-take_natural.ensures in
    let before = c.args.out.now.items in
    let after = c.put_natural.new.out.items in
    of_tokens Within c.args.level _ _ ts before after taken.first
    (leaf_is_value c.args.level (grammar.number taken.digits) ts before after (record { leaf = json.number (json.unsigned n); read = ap (option_map json.number) taken.is; added = c.in_ok-put_natural.ensures }))

pub put_value-returns-then-take_begin_array-clause-ok : goal.put_value-returns-then-take_begin_array-clause-ok
put_value-returns-then-take_begin_array-clause-ok t c =
    let ts = c.take_begin_array.new.self in
    let is : c.args.lexer.now ≡ grammar.begin_array ∷ ts = grind arith in
    let level : c.args.level ≡ suc (c.args.level - 1) = omega arith in
    let before = c.args.out.now.items in
    let after = c.put_list.new.out.items in
    IfOk-weaker c.put_list.result _ _
    (λ fit h. of_tokens fit c.args.level _ _ c.put_list.new.lexer before after is (list_is_value fit c.args.level (c.args.level - 1) ts c.put_list.new.lexer before after level h)) c.put_list.ensures.ok

pub put_value-returns-then-take_begin_object-clause-ok : goal.put_value-returns-then-take_begin_object-clause-ok
put_value-returns-then-take_begin_object-clause-ok t c =
    let ts = c.take_begin_object.new.self in
    let is : c.args.lexer.now ≡ grammar.begin_object ∷ ts = grind arith in
    let level : c.args.level ≡ suc (c.args.level - 1) = omega arith in
    let before = c.args.out.now.items in
    let after = c.put_dict.new.out.items in
    IfOk-weaker c.put_dict.result _ _
    (λ fit h. of_tokens fit c.args.level _ _ c.put_dict.new.lexer before after is (dict_is_value fit c.args.level (c.args.level - 1) ts c.put_dict.new.lexer before after level h)) c.put_dict.ensures.ok

pub put_value-returns-then-branch-clause-ok : goal.put_value-returns-then-branch-clause-ok
put_value-returns-then-branch-clause-ok t c =
    let same : c.take_begin_object.new.self ≡ c.args.lexer.now = grind arith in
    let ts = c.put_other.new.lexer in
    let before = c.args.out.now.items in
    let after = c.put_other.new.out.items in
    let h = subst (λ b. IsLeafTaken b c.take_begin_object.new.self ts before after) c.if-branch.true c.in_ok-put_other.ensures in
    of_tokens Within c.args.level c.args.lexer.now (h.token ∷ ts) ts before after (sym same ∙ h.first) (leaf_is_value c.args.level h.token ts before after h.put)

pub put_value-returns-clause-ok : goal.put_value-returns-clause-ok
put_value-returns-clause-ok t c =
    let same : c.take_begin_object.new.self ≡ c.args.lexer.now = grind arith in
    let ts = c.put_other.new.lexer in
    let before = c.args.out.now.items in
    let after = c.put_other.new.out.items in
    let h = subst (λ b. IsLeafTaken b c.take_begin_object.new.self ts before after) c.if-branch.false c.in_ok-put_other.ensures in
    of_tokens Unreadable c.args.level c.args.lexer.now (h.token ∷ ts) ts before after (sym same ∙ h.first) (large_is_none c.args.level h.token ts h.put)
