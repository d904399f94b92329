use Rattle.std.proofs.Common.{◌≡◌, ◌∙◌, [], ◌∷◌, true, false, ap, arith, refl, subst, sym}
use Rattle.bk_base.specs.declared.writes.Body.TheVariants.{Gone}
use Rattle.bk_keydir.specs.Keydir.{newest_of, versions_of}
use Rattle.bk_laws.specs.Log.{is_fresh}
use Rattle.bk_store.specs.Events.{next_write}
use Rattle.bk_store.specs.Shown.{Shown}
use Rattle.bk_store.specs.Writes.{is_expired}
use Rattle.bk_store.proofs.Answering.{expired_if, fresh_if, gone_if, reap_nothing, reap_ok, refused}
use Rattle.bk_store.proofs.Events.{crash_write}
use Rattle.bk_store.proofs.Stepping.{crash_still}
use Rattle.bk_store.proofs.store.Store.reap.Goals as goal

pub returns-in-Some-clause-ok : goal.returns-in-Some-clause-ok
returns-in-Some-clause-ok g c = λ tells.
    let put : c.in-Some.version.gone ≡ false = grind (arith, c.if-not-version.true) in
    let old : is_fresh c.in-Some.version.moment.0 c.args.now.0 c.self.inside.settings.ttl ≡ false =
    sym c.live.ensures ∙ grind (arith, c.if-not-live.true) in
    reap_ok g.D.Disk.tells c.args.self.now c.bury.new.self c.args.now c.args.key.now c.bury.result
    (subst
    (λ (x : Shown). is_expired x.settings.ttl c.args.now.0 (newest_of (versions_of c.args.key.now x.keys.entries)) ≡ true)
    c.self.view_is
    (expired_if c.self.inside.settings.ttl c.args.now.0 c.in-Some.version
    (newest_of (versions_of c.args.key.now c.self.inside.keydir.entries)) (sym c.newest.ensures ∙ c.in-Some.is) put old))
    c.bury.ensures.written c.bury.ensures.rest (c.bury.ensures.put tells)

pub returns-in-Some-clause-refused : goal.returns-in-Some-clause-refused
returns-in-Some-clause-refused g c = λ tells.
    refused g.D.Disk.tells c.args.self.now c.bury.new.self c.args.now c.args.key.now Gone c.bury.result c.bury.ensures.error
    c.bury.ensures.rest (c.bury.ensures.refused tells)

pub returns-in-Some-clause-crash : goal.returns-in-Some-clause-crash
returns-in-Some-clause-crash g c = λ tells.
    crash_write c.args.self.now c.bury.new.self (next_write c.args.self.now c.args.now c.args.key.now Gone) refl
    (c.bury.ensures.crash tells)

pub returns-in_default-clause-ok : goal.returns-in_default-clause-ok
returns-in_default-clause-ok g c = λ tells who.
    let put : c.in-Some.version.gone ≡ false = grind (arith, c.if-not-version.true) in
    let new : is_fresh c.in-Some.version.moment.0 c.args.now.0 c.self.inside.settings.ttl ≡ true =
    sym c.live.ensures ∙ grind (arith, c.if-not-live.false) in
    reap_nothing g.D.Disk.tells c.args.self.now c.args.now c.args.key.now who
    (subst
    (λ (x : Shown). is_expired x.settings.ttl c.args.now.0 (newest_of (versions_of c.args.key.now x.keys.entries)) ≡ false)
    c.self.view_is
    (fresh_if c.self.inside.settings.ttl c.args.now.0 c.in-Some.version
    (newest_of (versions_of c.args.key.now c.self.inside.keydir.entries)) (sym c.newest.ensures ∙ c.in-Some.is) put new))

pub returns-in_default-clause-crash : goal.returns-in_default-clause-crash
returns-in_default-clause-crash g c = λ tells.
    crash_still c.args.self.now c.args.self.now (next_write c.args.self.now c.args.now c.args.key.now Gone ∷ []) refl refl

pub returns-in_default-2-clause-ok : goal.returns-in_default-2-clause-ok
returns-in_default-2-clause-ok g c = λ tells who.
    let gone : c.in-Some.version.gone ≡ true = grind (arith, c.if-not-version.false) in
    reap_nothing g.D.Disk.tells c.args.self.now c.args.now c.args.key.now who
    (subst
    (λ (x : Shown). is_expired x.settings.ttl c.args.now.0 (newest_of (versions_of c.args.key.now x.keys.entries)) ≡ false)
    c.self.view_is
    (gone_if c.self.inside.settings.ttl c.args.now.0 c.in-Some.version
    (newest_of (versions_of c.args.key.now c.self.inside.keydir.entries)) (sym c.newest.ensures ∙ c.in-Some.is) gone))

pub returns-in_default-2-clause-crash : goal.returns-in_default-2-clause-crash
returns-in_default-2-clause-crash g c = λ tells.
    crash_still c.args.self.now c.args.self.now (next_write c.args.self.now c.args.now c.args.key.now Gone ∷ []) refl refl

pub returns-in_default-3-clause-ok : goal.returns-in_default-3-clause-ok
returns-in_default-3-clause-ok g c = λ tells who.
    reap_nothing g.D.Disk.tells c.args.self.now c.args.now c.args.key.now who
    (subst
    (λ (x : Shown). is_expired x.settings.ttl c.args.now.0 (newest_of (versions_of c.args.key.now x.keys.entries)) ≡ false)
    c.self.view_is
    (ap (is_expired c.self.inside.settings.ttl c.args.now.0) (sym c.newest.ensures ∙ c.in_default.is)))

pub returns-in_default-3-clause-crash : goal.returns-in_default-3-clause-crash
returns-in_default-3-clause-crash g c = λ tells.
    crash_still c.args.self.now c.args.self.now (next_write c.args.self.now c.args.now c.args.key.now Gone ∷ []) refl refl
