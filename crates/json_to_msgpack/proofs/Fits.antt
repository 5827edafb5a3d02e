-- What was put, by how it fits.
use Rattle.std.proofs.Common.{◌≡◌, ℕ, true, false, List, None}
use Rattle.json.specs.Token.{Token}
use Rattle.json_to_msgpack.specs.declared.fit.Fit.{Fit}
use Rattle.json_to_msgpack.specs.declared.fit.Fit.TheVariants.{Within, TooDeep, Unreadable}
use Rattle.json_to_msgpack.specs.body.Fits.{is_read}
use Rattle.json_to_msgpack.specs.body.Values.{dict_read, IsValueAdded, IsNoValue, IsValuePut, IsDictPut}

module _ (level : ℕ) (old new : List Token) (before after : List ℕ) where
  pub put_read : (fit : Fit) → is_read fit ≡ true → IsValuePut fit level old new before after → IsValueAdded fit level old new before after
  put_read Within e h = h
  put_read TooDeep e h = h
  put_read Unreadable e h = absurd cc

  pub put_unread : (fit : Fit) → is_read fit ≡ false → IsValuePut fit level old new before after → IsNoValue level old
  put_unread Within e h = absurd cc
  put_unread TooDeep e h = absurd cc
  put_unread Unreadable e h = h

  pub dict_unread : (fit : Fit) → is_read fit ≡ false → dict_read level old ≡ None → IsDictPut fit level old new before after
  dict_unread Within e h = absurd cc
  dict_unread TooDeep e h = absurd cc
  dict_unread Unreadable e h = h
