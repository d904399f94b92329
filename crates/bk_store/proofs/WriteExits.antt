-- The exits of a write: what each of them leaves.
use Rattle.std.proofs.Common.{◌≡◌, ℕ, ◌<◌, Bool, List, [], ◌∷◌, length, refl, sym, ap, subst, ◌∙◌, arith, inl}
use Rattle.std.specs.Prelude.{IsTrue}
use Rattle.bk_base.specs.declared.writes.Version.{Version}
use Rattle.bk_base.specs.declared.writes.Write.{Write}
use Rattle.bk_disk.specs.Crashes.{AtEach}
use Rattle.bk_disk.specs.Told.{Told, clock}
use Rattle.bk_files.specs.Files.{Seen, is_due}
use Rattle.bk_image.specs.Prefix.{MeetsEither}
use Rattle.bk_image.proofs.HoldsCourse.{begins}
use Rattle.bk_keydir.specs.Folds.{KeepsFolds}
use Rattle.bk_keydir.specs.Keydir.{Entry, IsNewer, IsNewerThan, versions_of, with_version}
use Rattle.bk_keydir.specs.Keydir.{Shown as KeydirShown}
use Rattle.bk_keydir.specs.Slots.{IsOpen}
use Rattle.bk_laws.specs.Log.{last_seq}
use Rattle.bk_laws.specs.Record.{IsWritable, record_of, size_of}
use Rattle.bk_laws.specs.Version.{version_at}
use Rattle.bk_laws.proofs.RecordBytes.{length-record_of}
use Rattle.bk_store.specs.declared.appending.Place.{Place}
use Rattle.bk_store.specs.declared.errors.PutError.{PutError}
use Rattle.bk_store.specs.declared.errors.PutError.TheVariants.{FullSeq, FullFiles, Disk, Memory}
use Rattle.bk_store.specs.Appends.{AppendsAt, AppendsNot, CountsAlone, CrashMeetsPut, HasReserved, MayFollow, RowsHaveRoom, WhyNoAppend, WhyNoWrite, WritesDown, WritesNot, tried_by}
use Rattle.bk_store.specs.Rows.{RowsStand}
use Rattle.bk_store.specs.Standing.{Content, ContentStands}
use Rattle.bk_store.proofs.Contents.{content_kept, content_put, content_same}

-- a version says its own place
says_own : (v : Version) (p : Place) (w : Write) → v ≡ version_at p.file p.at w → v ≡ version_at v.file v.at w
says_own v p w is = subst (λ (x : Version). x ≡ version_at x.file x.at w) (sym is) refl

-- the keydir that made room has what it had
room_made : (ttl : ℕ) (files : Seen) (keys ready : KeydirShown) (c : Content) → ready.slots ≡ keys.slots
    → ready.entries ≡ keys.entries → ContentStands ttl files keys c → ContentStands ttl files ready c
room_made ttl files keys ready c slots entries h = content_same ttl files files keys ready c h h.disk refl refl slots entries

pub still_newer : (seq : ℕ) (key : List ℕ) (keys ready : KeydirShown) → ready.slots ≡ keys.slots → ready.entries ≡ keys.entries
    → IsNewer seq key keys → IsNewer seq key ready
still_newer seq key keys ready slots entries h = record {
  newest = subst (λ (es : List Entry). IsNewerThan seq (versions_of key es)) (sym entries) h.newest;
  epochs = λ s is_open. h.epochs s (subst (λ l. IsOpen l s) slots is_open);
}

module _ (tells : Bool) (w : Write) (text : List ℕ) (files : Seen) (keys ready : KeydirShown) (fits : IsWritable w)
    (is : text ≡ record_of w) (slots : ready.slots ≡ keys.slots) (entries : ready.entries ≡ keys.entries) where
  long : length text ≡ size_of w
  long = ap length is ∙ length-record_of w

  may : (c : Content) → last_seq c.log < w.seq.0 → MayFollow w text c
  may c newer = record { fits = fits; is = is; newer = newer }

  pub writes_down : (p : Place) (v : Version) (mid new : Seen) (now : KeydirShown) → AppendsAt tells text p files mid
      → v ≡ version_at p.file p.at w → now.entries ≡ with_version ready.slots w.key v ready.entries → KeepsFolds ready now
      → (RowsHaveRoom v mid.catalog.rows ready.entries → RowsStand new.catalog.rows now.entries) → CountsAlone tells mid new
      → WritesDown tells w p.rolled files keys new now
  writes_down p v mid new now appended at put folds counts alone =
      let due : is_due (length text) files ≡ is_due (size_of w) files = ap (λ (n : ℕ). is_due n files) long in
      record {
        is_rolled = appended.rolled ∙ due;
        file_left = λ is_due_now. appended.file_left (due ∙ is_due_now);
        entries = record {
          version = v;
          says = says_own v p w at;
          entries = put ∙ ap (λ l. with_version l w.key v ready.entries) slots
              ∙ ap (λ (es : List Entry). with_version keys.slots w.key v es) entries;
        };
        puts = λ tell ttl c h newer.
            content_put tells ttl files mid new ready now c w p tell (room_made ttl files keys ready c slots entries h) newer
            (appended.appended tell c w h.disk (may c newer))
            (subst (λ (x : Version). now.entries ≡ with_version ready.slots w.key x ready.entries) at put) folds alone
            (subst (λ (x : Version). RowsHaveRoom x mid.catalog.rows ready.entries → RowsStand new.catalog.rows now.entries) at
            counts);
      }

  pub crash_down : (p : Place) (mid new : Seen) → IsTrue tells → AppendsAt tells text p files mid → CountsAlone tells mid new
      → CrashMeetsPut w files new
  crash_down p mid new tell appended alone c disk newer =
      subst (λ (t : Told). AtEach t (clock files.told) (MeetsEither c.log c.kept c.tried (w ∷ [])))
      (sym (ap (λ (s : Seen). s.told) alone.same)) (appended.appended tell c w disk (may c newer)).crash

  why_not : (new : Seen) (e : PutError) → WhyNoAppend text files new e → WhyNoWrite w files new e
  why_not new FullSeq h = h
  why_not new FullFiles h = (ap (λ (n : ℕ). is_due n files) (sym long) ∙ h.0, h.1)
  why_not new Disk h = h
  why_not new Memory h = tt

  -- what was reserved is enough, so the refusal isn't for memory
  pub not_for_memory : (new : Seen) (e : PutError) (capacity : ℕ) → AppendsNot tells text files new e → e ≡ Memory
      → HasReserved w files keys capacity → ⊥
  not_for_memory new e capacity h is reserved =
      subst (WhyNoAppend text files new) is h.why (ap (λ (n : ℕ). is_due n files) long ∙ reserved.no_new_file)
      (omega (arith, long, reserved.room))

  pub writes_not : (new : Seen) (e : PutError) → AppendsNot tells text files new e → WritesNot tells w files keys new ready e
  writes_not new e h = record {
    why = why_not new e h.why;
    entries = entries;
    nothing = λ tell ttl c stood newer.
        let n = h.nothing tell c w stood.disk (may c newer) in
        (n.left, n.is_left, content_kept ttl files new keys ready c (w ∷ []) (tried_by e w) stood n slots entries);
  }

  pub crash_not : (new : Seen) (e : PutError) → IsTrue tells → AppendsNot tells text files new e → CrashMeetsPut w files new
  crash_not new e tell h c disk newer = (h.nothing tell c w disk (may c newer)).crash

-- before the first call on the files
pub writes_nothing : (tells : Bool) (w : Write) (files : Seen) (keys ready : KeydirShown) → ready.slots ≡ keys.slots
    → ready.entries ≡ keys.entries → WritesNot tells w files keys files ready Memory
writes_nothing tells w files keys ready slots entries = record {
  why = tt;
  entries = entries;
  nothing = λ tell ttl c h newer. (c.tried, inl refl, room_made ttl files keys ready c slots entries h);
}

pub crash_nothing : (w : Write) (files : Seen) → CrashMeetsPut w files files
crash_nothing w files c disk newer = (begins (w ∷ []) disk.holds).each
