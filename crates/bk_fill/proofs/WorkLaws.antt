-- The sync of a fill, and what the fill has done behind it.
use Rattle.std.proofs.Common.{◌≡◌, ◌∙◌, ℕ, Bool, false, List, [], ◌∷◌, ◌++◌, None, refl, sym, ap, subst}
use Rattle.std.proofs.Common.{IsTrue}
use Rattle.std.specs.Prelude.{◌-◌, Result, Ok, Err, IfOk, OnOk, OnErr}
use Rattle.std.proofs.lemmas.List.{append-nil}
use Rattle.bk_base.specs.declared.calls.Answer.{Answer}
use Rattle.bk_base.specs.declared.calls.Answer.TheVariants.{Numbered as numbered_answer}
use Rattle.bk_base.specs.declared.calls.Call.TheVariants.{Sync as sync_call}
use Rattle.bk_base.specs.declared.histories.Opening.{Opening}
use Rattle.bk_base.specs.declared.histories.Step.{Step}
use Rattle.bk_base.specs.declared.numbers.Moment.{Moment}
use Rattle.bk_base.specs.declared.numbers.Seq.{Seq}
use Rattle.bk_base.specs.declared.requests.Reply.{Reply}
use Rattle.bk_base.specs.declared.requests.Reply.TheVariants.{Disk, Synced}
use Rattle.bk_base.specs.declared.requests.Request.TheVariants.{Sync}
use Rattle.bk_base.specs.declared.writes.Write.{Write}
use Rattle.bk_disk.specs.declared.errors.Failed.{Failed}
use Rattle.bk_disk.specs.Causes.{IsCaused}
use Rattle.bk_disk.specs.Told.{Told, untold}
use Rattle.bk_exchange.specs.Answers.{ShowsSync, map_size}
use Rattle.bk_exchange.specs.Exchanges.{Exchange, Replies, steps_of}
use Rattle.bk_exchange.specs.Points.{events, point_of}
use Rattle.bk_fill.proofs.MadeExchanges.{entry_shown, made_more, told_on}
use Rattle.bk_exchange.specs.Writes.{told_writes}
use Rattle.bk_fill.proofs.PutLaws.{told_by_puts}
use Rattle.bk_fill.specs.declared.work.Work.{Work}
use Rattle.bk_fill.specs.Making.{AreMade}
use Rattle.bk_fill.specs.Putting.{HasPut}
use Rattle.bk_fill.specs.Work.{EndsSync, HasWorked, IsAtRest}
use Rattle.bk_image.proofs.HoldsCrashes.{holds_at_rest}
use Rattle.bk_keydir.specs.Keydir.{newest_of, versions_of}
use Rattle.bk_laws.specs.History.{log_of}
use Rattle.bk_laws.specs.Log.{winner}
use Rattle.bk_session.proofs.Events.{is_step_of, rises_by_faults, step_of}
use Rattle.bk_session.proofs.Following.{known_way}
use Rattle.bk_session.proofs.Reading.{sync_refused, sync_replies}
use Rattle.bk_session.proofs.Sizes.{size_is}
use Rattle.bk_session.specs.Following.{own_context}
use Rattle.bk_session.specs.Replying.{RepliesOnce, exchange_of}
use Rattle.bk_store.proofs.Events.{put_says}
use Rattle.bk_store.proofs.Stepping.{content_is}
use Rattle.bk_store.specs.declared.sweeps.Stat.{Stat}
use Rattle.bk_store.specs.Events.{CrashMeets, GoesOn, KeepsPast, Refuses, entry_by}
use Rattle.bk_store.specs.Shown.{Shown, known_bytes}
use Rattle.bk_store.specs.Standing.{FilesStand, StandsFor}
use Rattle.bk_store.specs.Sweeps.{IsStat}
use Rattle.bk_store.specs.Writes.{KeepsRest}

-- ---- the entry of a sync that was answered

shown_sync : (answer : Answer) (reply : Reply) (seq : Seq) → Synced seq ≡ reply → ShowsSync answer reply
    → answer ≡ numbered_answer seq
shown_sync (numbered_answer n) (Synced shown) seq is shows =
    let same : seq ≡ shown = cc is in
    ap numbered_answer (shows ∙ sym same)
shown_sync answer reply seq is shows = absurd shows

sync_entry : (o : Opening) (h : List Step) (now : Moment) (seq : Seq) (step : Step) → step.entry.caller ≡ 0
    → Replies (own_context o) Sync now (events (point_of o h) (step ∷ [])) (Synced seq ∷ [])
    → step.entry ≡ entry_by 0 sync_call (numbered_answer seq)
sync_entry o h now seq step caller replied =
    entry_shown o (point_of o h) Sync step sync_call (numbered_answer seq) ShowsSync (Synced seq) caller
    (λ a shown is shows. shown_sync a shown seq is shows) (λ never. cc never) replied

-- ---- what a crash takes

-- A crash after a sync takes nothing.
pub sync_takes_nothing : (tells : Bool) (seq : Seq) (v u : Shown) → IsTrue tells → KeepsRest v u
    → ((who : ℕ) → GoesOn tells (entry_by who sync_call (numbered_answer seq)) v u)
    → (o : Opening) (h : List Step) (tried : List Write) → StandsFor v o h tried → IsAtRest u.files.told (log_of o h)
sync_takes_nothing tells seq v u tell rest goes o h tried stands =
    let n = u.files.faults - v.files.faults in
    let rises = rises_by_faults v u rest.later rest.views rest.outs in
    let e = entry_by 0 sync_call (numbered_answer seq) in
    let step = step_of tells e n 0 u in
    let later = goes 0 o h tried step stands (is_step_of tells e n 0 v u tell rises) refl in
    holds_at_rest (subst (FilesStand u.files) (content_is o h step e [] refl) later.content.disk).holds

-- ---- the number of keys

pub keys_are : (s : Stat) (v : Shown) (o : Opening) (h : List Step) (tried : List Write) → IsStat s v → StandsFor v o h tried
    → s.keys ≡ map_size (log_of o h)
keys_are s v o h tried stat stood =
    stat.keys
    ∙ size_is v.keys.entries (log_of o h) stat.once
    (λ key. put_says (known_bytes v.files) (newest_of (versions_of key v.keys.entries)) (winner (log_of o h) key)
    (stood.content.newest.newest key))

-- ---- the sync

-- the line of a sync, of every history that the store followed
abbrev SyncsAll : Result Seq Failed → Bool → Shown → Shown → Type 0
SyncsAll (Ok seq) tells old new = (known : Bool) → (IsTrue known → IsTrue tells) → RepliesOnce known Sync None (Synced seq) old new
SyncsAll (Err e) tells old new = (known : Bool) → (IsTrue known → IsTrue tells) → RepliesOnce known Sync None Disk old new

-- what a call of the store's sync promises
pub record SyncCall (result : Result Seq Failed) (tells : Bool) (v u : Shown) : Type 0 where
  pub rest : KeepsRest v u
  pub same : u ≡ record v { files = u.files }
  pub past : IsTrue tells → KeepsPast v.files.told u.files.told
  pub crash : IsTrue tells → CrashMeets [] v u
  pub cause : IsCaused v.files.faults u.files.faults result
  pub ok : IsTrue tells → IfOk result (λ seq. (who : ℕ) → GoesOn tells (entry_by who sync_call (numbered_answer seq)) v u)
  pub refused : IsTrue tells → OnErr result ((who : ℕ) → Refuses tells who [] v u)

syncs_all : (result : Result Seq Failed) (tells : Bool) (v u : Shown) → SyncCall result tells v u → SyncsAll result tells v u
syncs_all (Ok seq) tells v u c =
    λ known sub. known_way known tells (λ (t : Bool). RepliesOnce t Sync None (Synced seq) v u) sub
    (sync_replies tells v u c.rest c.same c.past c.crash seq (λ t. c.ok t))
    (sync_replies false v u c.rest c.same (λ t. untold t) (λ t. untold t) seq (λ t. untold t))
syncs_all (Err e) tells v u c =
    λ known sub. known_way known tells (λ (t : Bool). RepliesOnce t Sync None Disk v u) sub
    (sync_refused tells v u c.rest c.same c.past c.crash c.cause.failed (λ t. c.refused t))
    (sync_refused false v u c.rest c.same (λ t. untold t) (λ t. untold t) c.cause.failed (λ t. untold t))

takes_nothing : (result : Result Seq Failed) (tells : Bool) (v u : Shown) → SyncCall result tells v u → IsTrue tells
    → (o : Opening) (h : List Step) (tried : List Write) → StandsFor v o h tried
    → OnOk result (IsAtRest u.files.told (log_of o h))
takes_nothing (Ok seq) tells v u c tell o h tried stands = sync_takes_nothing tells seq v u tell c.rest (c.ok tell) o h tried stands
takes_nothing (Err e) tells v u c tell o h tried stands = tt

-- ---- the whole

-- the exchange of the sync, behind the others; it tells no write
record Syncs (known : Bool) (result : Result Seq Failed) (v u : Shown) (o : Opening) (h : List Step) (first : List Write)
    (xs : List Exchange) : Type 0 where
  sync : Exchange
  is : EndsSync result sync
  made : AreMade known v u o h first (xs ++ sync ∷ [])
  told : told_writes (xs ++ sync ∷ []) ≡ told_writes xs

syncs : (known tells : Bool) (result : Result Seq Failed) (v m u : Shown) (o : Opening) (h : List Step) (first : List Write)
    (xs : List Exchange) → (IsTrue known → IsTrue tells) → AreMade known v m o h first xs → SyncsAll result tells m u
    → Syncs known result v u o h first xs
syncs known tells (Ok seq) v m u o h first xs sub a replies =
    let h2 = h ++ steps_of xs in
    let r = replies known sub o h2 a.tried a.follows in
    let x = exchange_of Sync None (r.step ∷ []) (Synced seq ∷ []) in
    record {
      sync = x;
      is = record {
        step = r.step;
        entry = sync_entry o h2 (record { 0 = 0 }) seq r.step r.caller r.replied;
        is = refl;
      };
      made = made_more known v m u o h first xs a Sync None (Synced seq) tt refl refl r;
      told = told_on xs x ∙ append-nil (told_writes xs);
    }
syncs known tells (Err e) v m u o h first xs sub a replies =
    let h2 = h ++ steps_of xs in
    let r = replies known sub o h2 a.tried a.follows in
    let x = exchange_of Sync None (r.step ∷ []) (Disk ∷ []) in
    record {
      sync = x;
      is = (r.step ∷ [], refl);
      made = made_more known v m u o h first xs a Sync None Disk tt refl refl r;
      told = told_on xs x ∙ append-nil (told_writes xs);
    }

on_ok : (result : Result Seq Failed) (t : Told) (log later : List Write) → later ≡ log → OnOk result (IsAtRest t log)
    → OnOk result (IsAtRest t later)
on_ok result t log later is h = subst (λ (l : List Write). OnOk result (IsAtRest t l)) (sym is) h

pub work_done : (known tells : Bool) (now : Moment) (count : ℕ) (w : Work) (s : Stat) (v m u : Shown) (o : Opening)
    (h : List Step) (first : List Write) → (IsTrue known → IsTrue tells) → HasPut known now count w.puts v m o h first
    → SyncCall w.sync tells m u → IsStat s u → w.keys ≡ s.keys → HasWorked known now count w v u o h first
work_done known tells now count w s v m u o h first sub p c stat same =
    let xs = p.puts ++ p.rest in
    let y = syncs known tells w.sync v m u o h first xs sub p.made (syncs_all w.sync tells m u c) in
    let later : log_of o (h ++ steps_of (xs ++ y.sync ∷ [])) ≡ log_of o (h ++ steps_of xs) =
    y.made.log ∙ ap (λ (ws : List Write). log_of o h ++ ws) y.told ∙ sym p.made.log in
    record {
      puts = p.puts;
      rest = p.rest;
      sync = y.sync;
      are = p.are;
      ends = p.ends;
      syncs = y.is;
      made = y.made;
      log = y.made.log
          ∙ ap (λ (ws : List Write). log_of o h ++ ws) (y.told ∙ told_by_puts w.puts now count p.puts p.rest p.ends);
      keys = same ∙ stat.keys;
      map = λ t. same ∙ keys_are s u o (h ++ steps_of (xs ++ y.sync ∷ [])) y.made.tried stat (y.made.follows.stands t);
      at_rest = λ t. on_ok w.sync u.files.told (log_of o (h ++ steps_of xs)) (log_of o (h ++ steps_of (xs ++ y.sync ∷ []))) later
          (takes_nothing w.sync tells m u c (sub t) o (h ++ steps_of xs) p.made.tried (p.made.follows.stands t));
    }
