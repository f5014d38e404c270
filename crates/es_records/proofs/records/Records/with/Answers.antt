use Rattle.std.proofs.Common.{sym, ap, ◌∙◌}
use Rattle.es_records.specs.declared.change.SecurityChange.TheVariants.{AddKey, Invalidate}
use Rattle.es_records.proofs.Changed.{changed_so, unchanged_so}
use Rattle.es_records.proofs.records.Records.with.Goals as goal

pub returns-in-PutRole : goal.returns-in-PutRole
returns-in-PutRole c = changed_so c.with_role.result c.args.self.now c.args.change.now _ c.in-PutRole.is c.with_role.ensures

pub returns-in-DeleteRole : goal.returns-in-DeleteRole
returns-in-DeleteRole c = changed_so c.without_role.result c.args.self.now c.args.change.now _ c.in-DeleteRole.is c.without_role.ensures

pub returns-in-PutUser : goal.returns-in-PutUser
returns-in-PutUser c = changed_so c.with_user.result c.args.self.now c.args.change.now _ c.in-PutUser.is c.with_user.ensures

pub returns-in-DeleteUser : goal.returns-in-DeleteUser
returns-in-DeleteUser c = changed_so c.without_user.result c.args.self.now c.args.change.now _ c.in-DeleteUser.is c.without_user.ensures

pub returns-in_ok-share-in-AddKey : goal.returns-in_ok-share-in-AddKey
returns-in_ok-share-in-AddKey c = changed_so c.with_key.result c.args.self.now c.args.change.now _ (c.in-AddKey.is ∙ ap AddKey (sym c.in_ok-share-in-AddKey.ensures)) c.with_key.ensures

pub returns-in-Invalidate : goal.returns-in-Invalidate
returns-in-Invalidate c = changed_so c.with_invalidated.result c.args.self.now c.args.change.now _ (c.in-Invalidate.is ∙ ap Invalidate (sym c.as_slice.ensures)) c.with_invalidated.ensures

pub returns-in-ClearCache : goal.returns-in-ClearCache
returns-in-ClearCache c = unchanged_so c.share-in-ClearCache.result c.args.self.now c.args.change.now _ _ c.in-ClearCache.is c.share-in-ClearCache.ensures
