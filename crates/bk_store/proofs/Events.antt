-- From what an event did to what a store has, to the step of the history.
use Rattle.std.proofs.Common.{◌≡◌, ℕ, ◌+◌, Bool, true, false, cond, List, [], ◌∷◌, Option, Some, None, refl, sym, ap, subst, ◌∙◌, arith}
use Rattle.std.specs.Prelude.{not, ◌&&◌}
use Rattle.std.specs.Option.{is_none, is_some}
use Rattle.bk_base.specs.declared.calls.Answer.TheVariants.{Numbered}
use Rattle.bk_base.specs.declared.calls.Call.TheVariants.{Delete, Put as put_call, Reap}
use Rattle.bk_base.specs.declared.calls.Entry.{Entry}
use Rattle.bk_base.specs.declared.histories.Opening.{Opening}
use Rattle.bk_base.specs.declared.histories.Step.{Step}
use Rattle.bk_base.specs.declared.numbers.Moment.{Moment}
use Rattle.bk_base.specs.declared.numbers.Seq.{Seq}
use Rattle.bk_base.specs.declared.writes.Body.{Body}
use Rattle.bk_base.specs.declared.writes.Body.TheVariants.{Gone, Put}
use Rattle.bk_base.specs.declared.writes.Version.{Version}
use Rattle.bk_base.specs.declared.writes.Write.{Write}
use Rattle.bk_image.specs.Readings.{Reading}
use Rattle.bk_image.proofs.Logs.{seq_after-append}
use Rattle.bk_keydir.specs.Keydir.{newest_of, versions_of}
use Rattle.bk_laws.specs.History.{IsReply, log_of, state_after}
use Rattle.bk_laws.specs.Log.{is_fresh, last_seq, live_in, put_of, winner}
use Rattle.bk_laws.specs.Version.{is_tombstone}
use Rattle.bk_laws.specs.History.{is_expired as is_expired_in}
use Rattle.bk_store.specs.declared.errors.PutError.{PutError}
use Rattle.bk_store.specs.Appends.{CrashMeetsPut, PutsNothing, PutsWrite, tried_by, with_write}
use Rattle.bk_store.specs.Events.{CrashMeets, GoesOn, Keeps, Refuses, entry_by, next_write, quiet_by}
use Rattle.bk_store.specs.Loans.{is_live, is_put}
use Rattle.bk_store.specs.Shown.{Shown, known_bytes}
use Rattle.bk_store.specs.Standing.{Content, ContentStands, StandsFor, content_of}
use Rattle.bk_store.specs.Versions.{KeyStands}
use Rattle.bk_store.specs.Writes.{is_expired}
use Rattle.bk_store.proofs.Stepping.{content_next, one_step}

-- ---- what the newest version says of the log

pub put_says : (r : Reading) (v : Option Version) (w : Option Write) → KeyStands r v w → is_some (put_of w) ≡ is_put v
put_says r None w h = ap is_some h
put_says r (Some v) None h = absurd h
put_says r (Some v) (Some w) h = go w.body (ap (λ (x : Version). x.gone) h.says) where
  go : (b : Body) → v.gone ≡ is_tombstone b → is_some (put_of (Some (record w { body = b }))) ≡ not v.gone
  go (Put value) gone = ap not (sym gone)
  go Gone gone = ap not (sym gone)

pub live_says : (r : Reading) (ttl now : ℕ) (v : Option Version) (w : Option Write) → KeyStands r v w
    → is_some (live_in w now ttl) ≡ is_live ttl now v
live_says r ttl now None None h = refl
live_says r ttl now None (Some w) h = go w.body h where
  go : (b : Body) → put_of (Some (record w { body = b })) ≡ None → is_some (live_in (Some (record w { body = b })) now ttl) ≡ false
  go (Put value) none = absurd (cc none)
  go Gone none = refl
live_says r ttl now (Some v) None h = absurd h
live_says r ttl now (Some v) (Some w) h =
    go w.body (ap (λ (x : Version). x.gone) h.says) (ap (λ (x : Version). x.moment.0) h.says) where
      at : (b : Bool) (value : List ℕ) → is_some (cond b (Some value) None) ≡ b
      at true value = refl
      at false value = refl

      go : (b : Body) → v.gone ≡ is_tombstone b → v.moment.0 ≡ w.moment.0
          → is_some (live_in (Some (record w { body = b })) now ttl) ≡ (not v.gone && is_fresh v.moment.0 now ttl)
      go (Put value) gone moment = rw (gone, moment) (at (is_fresh w.moment.0 now ttl) value)
      go Gone gone moment = rw gone refl

none_not : {X : Type 0} (o : Option X) → is_none o ≡ not (is_some o)
none_not None = refl
none_not (Some x) = refl

pub expired_says : (r : Reading) (log : List Write) (key : List ℕ) (ttl now : ℕ) (v : Option Version)
    → KeyStands r v (winner log key) → is_expired_in log key now ttl ≡ is_expired ttl now v
expired_says r log key ttl now v h =
    ap (λ (b : Bool). b && is_none (live_in (winner log key) now ttl)) (put_says r v (winner log key) h)
    ∙ ap (λ (b : Bool). is_put v && b)
    (none_not (live_in (winner log key) now ttl) ∙ ap not (live_says r ttl now v (winner log key) h))

-- ---- steps

pub seq_is : (n : Seq) (k : ℕ) → n.0 ≡ k → n ≡ record { 0 = k }
seq_is n k is = let f : ℕ → Seq = λ m. record { 0 = m } in ap f is

-- what was tried stays so
pub keeps_event : (tells : Bool) (v u : Shown) (e : Entry) → u.settings ≡ v.settings → u.seq ≡ v.seq
    → ((o : Opening) (h : List Step) (left : List Write) → content_next o h e left ≡ content_of o h left)
    → ((o : Opening) (h : List Step) (tried : List Write) → StandsFor v o h tried
    → IsReply v.settings.ttl (state_after o h) e.caller e.call e.reply)
    → ((o : Opening) (h : List Step) (tried : List Write) → StandsFor v o h tried
    → ContentStands v.settings.ttl u.files u.keys (content_of o h tried))
    → Keeps tells e v u
keeps_event tells v u e settings seq same reply content o h tried s stood step is =
    one_step tells v u o h tried tried s e stood step is (reply o h tried stood) settings
    (seq ∙ stood.seq ∙ ap (λ (c : Content). last_seq c.log) (sym (same o h tried)))
    (subst (ContentStands v.settings.ttl u.files u.keys) (sym (same o h tried)) (content o h tried stood))

-- a write was made
pub goes_on_write : (tells : Bool) (v u : Shown) (e : Entry) (w : Write) → u.settings ≡ v.settings → u.seq ≡ v.seq + 1
    → w.seq.0 ≡ v.seq + 1 → PutsWrite w v.files v.keys u.files u.keys
    → ((o : Opening) (h : List Step) (tried : List Write) → content_next o h e [] ≡ with_write w (content_of o h tried))
    → ((o : Opening) (h : List Step) (tried : List Write) → StandsFor v o h tried
    → IsReply v.settings.ttl (state_after o h) e.caller e.call e.reply)
    → GoesOn tells e v u
goes_on_write tells v u e w settings seq next puts same reply o h tried s stood step is =
    one_step tells v u o h tried [] s e stood step is (reply o h tried stood) settings
    (seq ∙ sym next ∙ sym (seq_after-append 0 (log_of o h) (w ∷ [])) ∙ ap (λ (c : Content). last_seq c.log) (sym (same o h tried)))
    (subst (ContentStands v.settings.ttl u.files u.keys) (sym (same o h tried))
    (puts v.settings.ttl (content_of o h tried) stood.content (omega (arith, next, stood.seq))))

-- the call was refused
pub refuses_write : (tells : Bool) (v u : Shown) (who : ℕ) (e : PutError) (w : Write) → u.settings ≡ v.settings
    → u.seq ≡ v.seq → w.seq.0 ≡ v.seq + 1 → PutsNothing e w v.files v.keys u.files u.keys
    → Refuses tells who (tried_by e w) v u
refuses_write tells v u who e w settings seq next nothing o h tried s stood step is =
    let (left, is_left, content) =
    nothing v.settings.ttl (content_of o h tried) stood.content (omega (arith, next, stood.seq)) in (
      left,
      is_left,
      one_step tells v u o h tried left s (quiet_by who) stood step is tt settings (seq ∙ stood.seq) content,
    )

pub crash_write : (v u : Shown) (w : Write) → w.seq.0 ≡ v.seq + 1 → CrashMeetsPut w v.files u.files → CrashMeets (w ∷ []) v u
crash_write v u w next crash o h tried stood =
    crash (content_of o h tried) stood.content.disk (omega (arith, next, stood.seq))

-- ---- a put, a delete, a reap

pub put_goes_on : (tells : Bool) (v u : Shown) (who : ℕ) (key value : List ℕ) (now : Moment) (n : Seq) → u.settings ≡ v.settings
    → u.seq ≡ v.seq + 1 → n.0 ≡ v.seq + 1 → PutsWrite (next_write v now key (Put value)) v.files v.keys u.files u.keys
    → GoesOn tells (entry_by who (put_call key value now) (Numbered n)) v u
put_goes_on tells v u who key value now n settings seq is puts =
    subst (λ (m : Seq). GoesOn tells (entry_by who (put_call key value now) (Numbered m)) v u) (sym (seq_is n (v.seq + 1) is))
    (goes_on_write tells v u (entry_by who (put_call key value now) (Numbered (record { 0 = v.seq + 1 })))
    (next_write v now key (Put value)) settings seq refl puts (λ o h tried. refl)
    (λ o h tried stood. ap (λ (k : ℕ). k + 1) stood.seq))

pub delete_goes_on : (tells : Bool) (v u : Shown) (who : ℕ) (key : List ℕ) (now : Moment) (n : Seq) → u.settings ≡ v.settings
    → u.seq ≡ v.seq + 1 → n.0 ≡ v.seq + 1 → is_put (newest_of (versions_of key v.keys.entries)) ≡ true
    → PutsWrite (next_write v now key Gone) v.files v.keys u.files u.keys
    → GoesOn tells (entry_by who (Delete key now) (Numbered n)) v u
delete_goes_on tells v u who key now n settings seq is there puts =
    subst (λ (m : Seq). GoesOn tells (entry_by who (Delete key now) (Numbered m)) v u) (sym (seq_is n (v.seq + 1) is))
    (goes_on_write tells v u (entry_by who (Delete key now) (Numbered (record { 0 = v.seq + 1 })))
    (next_write v now key Gone) settings seq refl puts (λ o h tried. refl)
    (λ o h tried stood. (
      put_says (known_bytes v.files) (newest_of (versions_of key v.keys.entries)) (winner (log_of o h) key)
          (stood.content.newest.newest key) ∙ there,
      ap (λ (k : ℕ). k + 1) stood.seq,
    )))

pub reap_goes_on : (tells : Bool) (v u : Shown) (who : ℕ) (key : List ℕ) (now : Moment) (n : Seq) → u.settings ≡ v.settings
    → u.seq ≡ v.seq + 1 → n.0 ≡ v.seq + 1
    → is_expired v.settings.ttl now.0 (newest_of (versions_of key v.keys.entries)) ≡ true
    → PutsWrite (next_write v now key Gone) v.files v.keys u.files u.keys
    → GoesOn tells (entry_by who (Reap key now) (Numbered n)) v u
reap_goes_on tells v u who key now n settings seq is there puts =
    subst (λ (m : Seq). GoesOn tells (entry_by who (Reap key now) (Numbered m)) v u) (sym (seq_is n (v.seq + 1) is))
    (goes_on_write tells v u (entry_by who (Reap key now) (Numbered (record { 0 = v.seq + 1 })))
    (next_write v now key Gone) settings seq refl puts (λ o h tried. refl)
    (λ o h tried stood. (
      expired_says (known_bytes v.files) (log_of o h) key v.settings.ttl now.0 (newest_of (versions_of key v.keys.entries))
          (stood.content.newest.newest key) ∙ there,
      ap (λ (k : ℕ). k + 1) stood.seq,
    )))
