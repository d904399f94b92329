-- A get: what it lends, and the step of the history.
use Rattle.std.proofs.Common.{◌≡◌, ℕ, Bool, true, false, List, drop, Option, Some, None, refl, sym, ap, subst, ◌∙◌}
use Rattle.bk_base.specs.declared.calls.Answer.TheVariants.{Found, Nothing}
use Rattle.bk_base.specs.declared.calls.Call.TheVariants.{Get}
use Rattle.bk_base.specs.declared.calls.Entry.{Entry}
use Rattle.bk_base.specs.declared.histories.Opening.{Opening}
use Rattle.bk_base.specs.declared.histories.Step.{Step}
use Rattle.bk_base.specs.declared.names.Name.{Name}
use Rattle.bk_base.specs.declared.numbers.Moment.{Moment}
use Rattle.bk_base.specs.declared.writes.Version.{Version}
use Rattle.bk_base.specs.declared.writes.Write.{Write}
use Rattle.bk_disk.specs.Calls.{viewed}
use Rattle.bk_disk.specs.Told.{Told, range_of}
use Rattle.bk_files.specs.Files.{IsConsistent, IsFromScratch, IsSyncedIfSealed, Seen}
use Rattle.bk_image.specs.Readings.{main}
use Rattle.bk_keydir.specs.Keydir.{newest_of, versions_of}
use Rattle.bk_keydir.specs.Keydir.{Shown as KeydirShown}
use Rattle.bk_laws.specs.History.{IsReply, log_of, state_after}
use Rattle.bk_laws.specs.Log.{winner}
use Rattle.bk_store.specs.Events.{CrashMeets, Keeps, entry_by, quiet_by}
use Rattle.bk_store.specs.Loans.{LendsVersion, LendsWrite, Lent, is_live, live_if, live_of}
use Rattle.bk_store.specs.Shown.{Shown, known_bytes}
use Rattle.bk_store.specs.Standing.{Content, ContentStands, StandsFor, content_of}
use Rattle.bk_store.specs.Versions.{KeyStands}
use Rattle.bk_store.proofs.Contents.{content_same, files_same, files_still}
use Rattle.bk_store.proofs.Events.{keeps_event}
use Rattle.bk_store.proofs.Lending.{get_finds, get_finds_none}
use Rattle.bk_store.proofs.Stepping.{content_next, crash_still}

-- ---- a call that changed no file, no front and none of the keys

pub record SeesOnly (v u : Shown) : Type 0 where
  pub rest : u ≡ record v { files = u.files }
  pub catalog : u.files.catalog ≡ v.files.catalog
  pub image : u.files.told.image ≡ v.files.told.image
  pub fronts : u.files.told.fronts ≡ v.files.told.fronts
  pub past : u.files.told.past ≡ v.files.told.past
  pub consistent : IsConsistent u.files
  pub totals : IsFromScratch v.files → IsFromScratch u.files
  pub synced : IsSyncedIfSealed v.files → IsSyncedIfSealed u.files

pub sees_content : (v u : Shown) (c : Content) → SeesOnly v u → ContentStands v.settings.ttl v.files v.keys c
    → ContentStands v.settings.ttl u.files u.keys c
sees_content v u c s h =
    let keys : u.keys ≡ v.keys = ap (λ (x : Shown). x.keys) s.rest in
    content_same v.settings.ttl v.files u.files v.keys u.keys c h
    (files_same v.files u.files c h.disk s.consistent (s.totals h.disk.totals) (s.synced h.disk.synced) s.image s.fronts s.catalog)
    s.image s.catalog (ap (λ (k : KeydirShown). k.slots) keys) (ap (λ (k : KeydirShown). k.entries) keys)

pub sees_keeps : (tells : Bool) (v u : Shown) (e : Entry) → SeesOnly v u
    → ((o : Opening) (h : List Step) (left : List Write) → content_next o h e left ≡ content_of o h left)
    → ((o : Opening) (h : List Step) (tried : List Write) → StandsFor v o h tried
    → IsReply v.settings.ttl (state_after o h) e.caller e.call e.reply)
    → Keeps tells e v u
sees_keeps tells v u e s same reply =
    keeps_event tells v u e (ap (λ (x : Shown). x.settings) s.rest) (ap (λ (x : Shown). x.seq) s.rest) same reply
    (λ o h tried stood. sees_content v u (content_of o h tried) s stood.content)

pub sees_quiet : (tells : Bool) (v u : Shown) (who : ℕ) → SeesOnly v u → Keeps tells (quiet_by who) v u
sees_quiet tells v u who s = sees_keeps tells v u (quiet_by who) s (λ o h left. refl) (λ o h tried stood. tt)

pub sees_crash : (v u : Shown) (more : List Write) → SeesOnly v u → CrashMeets more v u
sees_crash v u more s = crash_still v u more s.past s.fronts

-- ---- which version is lent

pub none_lives : (ttl now : ℕ) (v : Option Version) → live_of ttl now v ≡ None → is_live ttl now v ≡ false
none_lives ttl now None h = refl
none_lives ttl now (Some x) h = go (is_live ttl now (Some x)) h where
  go : (b : Bool) → live_if b (Some x) ≡ None → b ≡ false
  go true h = absurd (cc h)
  go false h = refl

pub one_lives : (ttl now : ℕ) (v : Option Version) (x : Version) → live_of ttl now v ≡ Some x
    → (v ≡ Some x) × (is_live ttl now (Some x) ≡ true)
one_lives ttl now None x h = absurd (cc h)
one_lives ttl now (Some y) x h = go (is_live ttl now (Some y)) refl h where
  go : (b : Bool) → is_live ttl now (Some y) ≡ b → live_if b (Some y) ≡ Some x
      → (Some y ≡ Some x) × (is_live ttl now (Some x) ≡ true)
  go true e h = (h, ap (is_live ttl now) (sym h) ∙ e)
  go false e h = absurd (cc h)

-- ---- the answers

pub get_none : (tells : Bool) (v : Shown) (now : Moment) (key : List ℕ) (who : ℕ)
    → live_of v.settings.ttl now.0 (newest_of (versions_of key v.keys.entries)) ≡ None
    → Keeps tells (entry_by who (Get key now) Nothing) v v
get_none tells v now key who none =
    keeps_event tells v v (entry_by who (Get key now) Nothing) refl refl (λ o h left. refl)
    (λ o h tried stood.
    get_finds_none v.files (log_of o h) key v.settings.ttl now.0 (newest_of (versions_of key v.keys.entries))
    (stood.content.newest.newest key)
    (none_lives v.settings.ttl now.0 (newest_of (versions_of key v.keys.entries)) none))
    (λ o h tried stood. stood.content)

stands_newest : (v : Shown) (key : List ℕ) (x : Version) (o : Opening) (h : List Step) (tried : List Write) → StandsFor v o h tried
    → newest_of (versions_of key v.keys.entries) ≡ Some x → KeyStands (known_bytes v.files) (Some x) (winner (log_of o h) key)
stands_newest v key x o h tried stood is =
    subst (λ (y : Option Version). KeyStands (known_bytes v.files) y (winner (log_of o h) key)) is (stood.content.newest.newest key)

pub get_found : (tells : Bool) (v u : Shown) (now : Moment) (key : List ℕ) (x : Version) (l : Lent) (who : ℕ)
    → live_of v.settings.ttl now.0 (newest_of (versions_of key v.keys.entries)) ≡ Some x → LendsVersion key x l
    → l.left ≡ range_of (main x.file.0) x.at x.size v.files.told.image → SeesOnly v u
    → Keeps tells (entry_by who (Get key now) (Found (drop l.value_at l.left))) v u
get_found tells v u now key x l who is lends left s =
    let lives = one_lives v.settings.ttl now.0 (newest_of (versions_of key v.keys.entries)) x is in
    sees_keeps tells v u (entry_by who (Get key now) (Found (drop l.value_at l.left))) s (λ o h left. refl)
    (λ o h tried stood.
    (get_finds v.files (log_of o h) key v.settings.ttl now.0 x l (stands_newest v key x o h tried stood lives.0) lives.1 lends
    left).value)

pub get_lends : (v : Shown) (now : Moment) (key : List ℕ) (x : Version) (l : Lent)
    → live_of v.settings.ttl now.0 (newest_of (versions_of key v.keys.entries)) ≡ Some x → LendsVersion key x l
    → l.left ≡ range_of (main x.file.0) x.at x.size v.files.told.image
    → (o : Opening) (h : List Step) (tried : List Write) → StandsFor v o h tried → LendsWrite (winner (log_of o h) key) (Some l)
get_lends v now key x l is lends left o h tried stood =
    let lives = one_lives v.settings.ttl now.0 (newest_of (versions_of key v.keys.entries)) x is in
    (get_finds v.files (log_of o h) key v.settings.ttl now.0 x l (stands_newest v key x o h tried stood lives.0) lives.1 lends
    left).record_is

-- what a view does
pub lend_sees : (v : Shown) (files : Seen) (b : Bool) (n : Name) (at size : ℕ) → files.told ≡ viewed b n at size v.files.told
    → files.catalog ≡ v.files.catalog → IsConsistent files → (IsFromScratch v.files → IsFromScratch files)
    → (IsSyncedIfSealed v.files → IsSyncedIfSealed files) → SeesOnly v (record v { files = files })
lend_sees v files b n at size told catalog consistent totals synced = record {
  rest = refl;
  catalog = catalog;
  image = ap (λ (t : Told). t.image) told;
  fronts = ap (λ (t : Told). t.fronts) told;
  past = ap (λ (t : Told). t.past) told;
  consistent = consistent;
  totals = totals;
  synced = synced;
}

-- ---- a call that changed rooms alone

pub room_keeps : (tells : Bool) (v u : Shown) (who : ℕ) → u.settings ≡ v.settings → u.seq ≡ v.seq
    → u.files.told ≡ v.files.told → u.files.catalog ≡ v.files.catalog → IsConsistent u.files → u.keys.slots ≡ v.keys.slots
    → u.keys.entries ≡ v.keys.entries → Keeps tells (quiet_by who) v u
room_keeps tells v u who settings seq told catalog consistent slots entries =
    keeps_event tells v u (quiet_by who) settings seq (λ o h left. refl) (λ o h tried stood. tt)
    (λ o h tried stood.
    let c = content_of o h tried in
    content_same v.settings.ttl v.files u.files v.keys u.keys c stood.content
    (files_still v.files u.files c stood.content.disk told catalog consistent) (ap (λ (t : Told). t.image) told) catalog slots
    entries)
