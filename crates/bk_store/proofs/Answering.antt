-- From what a write did to the store to what the event answers.
use Rattle.std.proofs.Common.{◌≡◌, ℕ, Bool, true, false, List, Option, Some, None, refl, ap, ◌∙◌}
use Rattle.std.specs.Prelude.{not, IfErr, IfOk, OnOk, Result, Ok, Err}
use Rattle.bk_base.specs.declared.calls.Answer.TheVariants.{Nothing, Numbered}
use Rattle.bk_base.specs.declared.calls.Call.TheVariants.{Delete, Put as put_call, Reap}
use Rattle.bk_base.specs.declared.numbers.Moment.{Moment}
use Rattle.bk_base.specs.declared.writes.Body.{Body}
use Rattle.bk_base.specs.declared.writes.Body.TheVariants.{Gone, Put}
use Rattle.bk_base.specs.declared.writes.Version.{Version}
use Rattle.bk_base.specs.declared.writes.Write.{Write}
use Rattle.bk_keydir.specs.Keydir.{newest_of, versions_of}
use Rattle.bk_laws.specs.History.{log_of}
use Rattle.bk_laws.specs.Log.{is_fresh, winner}
use Rattle.bk_store.specs.declared.errors.PutError.{PutError}
use Rattle.bk_store.specs.declared.errors.PutError.TheVariants.{FullSeq, FullFiles, Disk, Memory}
use Rattle.bk_store.specs.declared.puts.Stored.{Stored}
use Rattle.bk_store.specs.Appends.{PutsNothing, PutsWrite, tried_by}
use Rattle.bk_store.specs.Events.{GoesOn, Keeps, Refuses, entry_by, next_write}
use Rattle.bk_store.specs.Loans.{is_put}
use Rattle.bk_store.specs.Shown.{Shown, known_bytes}
use Rattle.bk_store.specs.Writes.{Buries, IsBuried, IsWriteError, IsWritten, KeepsRest, bury_reply, is_expired}
use Rattle.bk_store.proofs.Events.{delete_goes_on, expired_says, keeps_event, put_goes_on, put_says, reap_goes_on, refuses_write}

-- a write that was refused took no seq
pub seq_kept : (w : Write) (v u : Shown) (e : PutError) → IsWriteError w v u e → u.seq ≡ v.seq
seq_kept w v u FullSeq h = ap (λ (x : Shown). x.seq) h.1
seq_kept w v u FullFiles h = h.1
seq_kept w v u Disk h = h.1
seq_kept w v u Memory h = h.1

pub refused : {T : Type 0} (tells : Bool) (v u : Shown) (now : Moment) (key : List ℕ) (body : Body) (r : Result T PutError)
    → IfErr r (IsWriteError (next_write v now key body) v u) → KeepsRest v u
    → IfErr r (λ e. PutsNothing e (next_write v now key body) v.files v.keys u.files u.keys)
    → IfErr r (λ e. (who : ℕ) → Refuses tells who (tried_by e (next_write v now key body)) v u)
refused tells v u now key body (Ok x) error rest nothing = tt
refused tells v u now key body (Err e) error rest nothing =
    λ who. refuses_write tells v u who e (next_write v now key body) rest.settings
    (seq_kept (next_write v now key body) v u e error) refl nothing

pub put_ok : (tells : Bool) (v u : Shown) (now : Moment) (key value : List ℕ) (r : Result Stored PutError)
    → IfOk r (IsWritten (next_write v now key (Put value)) v u) → KeepsRest v u
    → OnOk r (PutsWrite (next_write v now key (Put value)) v.files v.keys u.files u.keys)
    → IfOk r (λ s. (who : ℕ) → GoesOn tells (entry_by who (put_call key value now) (Numbered s.seq)) v u)
put_ok tells v u now key value (Err e) written rest puts = tt
put_ok tells v u now key value (Ok s) written rest puts =
    λ who. put_goes_on tells v u who key value now s.seq rest.settings written.next written.seq puts

pub delete_ok : (tells : Bool) (v u : Shown) (now : Moment) (key : List ℕ) (r : Result (Option Stored) PutError)
    → is_put (newest_of (versions_of key v.keys.entries)) ≡ true
    → IfOk r (IsBuried true (next_write v now key Gone) v u) → KeepsRest v u
    → OnOk r (PutsWrite (next_write v now key Gone) v.files v.keys u.files u.keys)
    → IfOk r (λ found. (who : ℕ) → Buries tells found (entry_by who (Delete key now) (bury_reply found)) v u)
delete_ok tells v u now key (Err e) due written rest puts = tt
delete_ok tells v u now key (Ok None) due written rest puts = absurd written
delete_ok tells v u now key (Ok (Some s)) due written rest puts =
    λ who. delete_goes_on tells v u who key now s.seq rest.settings written.next written.seq due puts

pub reap_ok : (tells : Bool) (v u : Shown) (now : Moment) (key : List ℕ) (r : Result (Option Stored) PutError)
    → is_expired v.settings.ttl now.0 (newest_of (versions_of key v.keys.entries)) ≡ true
    → IfOk r (IsBuried true (next_write v now key Gone) v u) → KeepsRest v u
    → OnOk r (PutsWrite (next_write v now key Gone) v.files v.keys u.files u.keys)
    → IfOk r (λ found. (who : ℕ) → Buries tells found (entry_by who (Reap key now) (bury_reply found)) v u)
reap_ok tells v u now key (Err e) due written rest puts = tt
reap_ok tells v u now key (Ok None) due written rest puts = absurd written
reap_ok tells v u now key (Ok (Some s)) due written rest puts =
    λ who. reap_goes_on tells v u who key now s.seq rest.settings written.next written.seq due puts

-- where nothing is to be deleted, nothing is done
pub delete_nothing : (tells : Bool) (v : Shown) (now : Moment) (key : List ℕ) (who : ℕ)
    → is_put (newest_of (versions_of key v.keys.entries)) ≡ false → Keeps tells (entry_by who (Delete key now) Nothing) v v
delete_nothing tells v now key who none =
    keeps_event tells v v (entry_by who (Delete key now) Nothing) refl refl (λ o h left. refl)
    (λ o h tried stood.
    put_says (known_bytes v.files) (newest_of (versions_of key v.keys.entries)) (winner (log_of o h) key)
    (stood.content.newest.newest key) ∙ none)
    (λ o h tried stood. stood.content)

pub reap_nothing : (tells : Bool) (v : Shown) (now : Moment) (key : List ℕ) (who : ℕ)
    → is_expired v.settings.ttl now.0 (newest_of (versions_of key v.keys.entries)) ≡ false
    → Keeps tells (entry_by who (Reap key now) Nothing) v v
reap_nothing tells v now key who none =
    keeps_event tells v v (entry_by who (Reap key now) Nothing) refl refl (λ o h left. refl)
    (λ o h tried stood.
    expired_says (known_bytes v.files) (log_of o h) key v.settings.ttl now.0 (newest_of (versions_of key v.keys.entries))
    (stood.content.newest.newest key) ∙ none)
    (λ o h tried stood. stood.content)

-- ---- what the newest version says

pub put_if : (x : Version) (v : Option Version) → v ≡ Some x → x.gone ≡ false → is_put v ≡ true
put_if x v is put = ap is_put is ∙ ap not put

pub no_put_if : (x : Version) (v : Option Version) → v ≡ Some x → x.gone ≡ true → is_put v ≡ false
no_put_if x v is gone = ap is_put is ∙ ap not gone

pub expired_if : (ttl now : ℕ) (x : Version) (v : Option Version) → v ≡ Some x → x.gone ≡ false
    → is_fresh x.moment.0 now ttl ≡ false → is_expired ttl now v ≡ true
expired_if ttl now x v is put old = ap (is_expired ttl now) is ∙ rw (put, old) refl

pub fresh_if : (ttl now : ℕ) (x : Version) (v : Option Version) → v ≡ Some x → x.gone ≡ false
    → is_fresh x.moment.0 now ttl ≡ true → is_expired ttl now v ≡ false
fresh_if ttl now x v is put new = ap (is_expired ttl now) is ∙ rw (put, new) refl

pub gone_if : (ttl now : ℕ) (x : Version) (v : Option Version) → v ≡ Some x → x.gone ≡ true → is_expired ttl now v ≡ false
gone_if ttl now x v is gone = ap (is_expired ttl now) is ∙ rw gone refl
