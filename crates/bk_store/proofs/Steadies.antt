-- What holds of each store over every disk lasts through its events.
use Rattle.std.proofs.Common.{◌≡◌, ℕ, ◌+◌, ◌<◌, ◌≤◌, Bool, List, [], ◌∷◌, length, refl, ap, subst, ◌∙◌, arith, inl, inr}
use Rattle.std.specs.Prelude.{IsTrue}
use Rattle.bk_base.specs.declared.limits.TheConstants.{LAST_SEQ, RECORD_HEADER}
use Rattle.bk_base.specs.declared.writes.Version.{Version}
use Rattle.bk_base.specs.declared.writes.Write.{Write}
use Rattle.bk_files.specs.Files.{IsConsistent, Seen}
use Rattle.bk_image.specs.Readings.{In}
use Rattle.bk_keydir.specs.Keydir.{Entry, IsNewer, IsNewerThan, versions_of}
use Rattle.bk_keydir.specs.Keydir.{Shown as KeydirShown}
use Rattle.bk_keydir.specs.Slots.{IsOpen}
use Rattle.bk_laws.specs.Record.{size_of}
use Rattle.bk_store.specs.Appends.{HasVersionOf}
use Rattle.bk_store.specs.Shown.{IsSteady}
use Rattle.bk_store.proofs.Keys.{in_put, in_versions_of}

-- the same folds and versions
pub steady_same : (tells : Bool) (old new : Seen) (keys now : KeydirShown) (seq : ℕ) → IsSteady tells old keys seq
    → (IsTrue tells → IsConsistent new) → now.slots ≡ keys.slots → now.entries ≡ keys.entries → IsSteady tells new now seq
steady_same tells old new keys now seq h consistent slots entries = record {
  consistent = consistent;
  last = h.last;
  slots = ap length slots ∙ h.slots;
  epochs = λ s is_open. h.epochs s (subst (λ l. IsOpen l s) slots is_open);
  versions = λ e v there is_in. h.versions e v (subst (In e) entries there) is_in;
}

-- a write has got the next seq
pub steady_put : (tells : Bool) (old new : Seen) (keys now : KeydirShown) (seq : ℕ) (w : Write) → IsSteady tells old keys seq
    → seq < LAST_SEQ → w.seq.0 ≡ seq + 1 → (IsTrue tells → IsConsistent new) → now.slots ≡ keys.slots
    → HasVersionOf w keys now → IsSteady tells new now (seq + 1)
steady_put tells old new keys now seq w h low is consistent slots put = record {
  consistent = consistent;
  last = omega (arith, low);
  slots = ap length slots ∙ h.slots;
  epochs = λ s is_open. let old_epoch = h.epochs s (subst (λ l. IsOpen l s) slots is_open) in omega (arith, old_epoch);
  versions = λ e v there is_in.
      elim (in_put keys.slots w.key put.version keys.entries e v (subst (In e) put.entries there) is_in) [
        | inl new_one ↦
            let says : v.seq.0 ≡ w.seq.0 = ap (λ (x : Version). x.seq.0) (new_one.1 ∙ put.says) in
            let long : v.size ≡ size_of w = ap (λ (x : Version). x.size) (new_one.1 ∙ put.says) in
            let key : length e.0 ≡ length w.key = ap length new_one.0 in
            record { given_out = omega (arith, says, is); long = omega (arith, long, key) }
        | inr old_one ↦
            let fit = h.versions old_one.0 v old_one.1 old_one.3 in
            let key : length e.0 ≡ length old_one.0.0 = ap length old_one.2 in
            record { given_out = omega (arith, fit.given_out); long = omega (arith, fit.long, key) }
      ];
}

-- the next seq is newer than all
pub next_is_newer : (tells : Bool) (files : Seen) (keys : KeydirShown) (seq : ℕ) (key : List ℕ) → IsSteady tells files keys seq
    → IsNewer (seq + 1) key keys
next_is_newer tells files keys seq key h = record {
  newest = go (versions_of key keys.entries) (λ v is_in. in_versions_of key v keys.entries is_in);
  epochs = λ s is_open. let old_epoch = h.epochs s is_open in omega (arith, old_epoch);
} where
  go : (vs : List Version) → ((v : Version) → In v vs → (e : Entry) × In e keys.entries × (e.0 ≡ key) × In v e.1)
      → IsNewerThan (seq + 1) vs
  go [] find = tt
  go (v ∷ vs) find =
      let (e, there, is, at) = find v (inl refl) in
      let fit = h.versions e v there at in
      omega (arith, fit.given_out)

-- a version that is found fits its key
pub found_is_fit : (tells : Bool) (files : Seen) (keys : KeydirShown) (seq : ℕ) (key : List ℕ) (v : Version)
    → IsSteady tells files keys seq → In v (versions_of key keys.entries) → RECORD_HEADER + length key ≤ v.size
found_is_fit tells files keys seq key v h is_in =
    let (e, there, is, at) = in_versions_of key v keys.entries is_in in
    let fit = h.versions e v there at in
    omega (arith, fit.long, ap length is)
