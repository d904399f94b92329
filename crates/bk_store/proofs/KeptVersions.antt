-- The versions stand for their writes through the calls of an event.
use Rattle.std.proofs.Common.{◌≡◌, ℕ, Bool, true, false, cond, List, [], ◌∷◌, ◌++◌, length, take, drop, Option, Some, None, refl, sym, ap, subst, ◌∙◌, inl, inr}
use Rattle.std.specs.Str.{bytes_eq}
use Rattle.std.proofs.lemmas.List.{append-nil, append_assoc}
use Rattle.bk_base.specs.declared.names.Name.{Name}
use Rattle.bk_base.specs.declared.writes.Version.{Version}
use Rattle.bk_base.specs.declared.writes.Write.{Write}
use Rattle.bk_laws.specs.Log.{or_else, winner}
use Rattle.bk_laws.specs.Record.{record_of}
use Rattle.bk_laws.proofs.LastWrites.{winner-append}
use Rattle.bk_laws.proofs.RecordBytes.{length-record_of}
use Rattle.bk_image.specs.Known.{KnowsSame}
use Rattle.bk_image.specs.Readings.{Reading, bytes_in, main}
use Rattle.bk_image.proofs.HoldsKnown.{range_stays}
use Rattle.bk_image.proofs.Lists.{in-append_left, in-append_right}
use Rattle.bk_keydir.specs.declared.slots.Slot.{Slot}
use Rattle.bk_keydir.specs.Keydir.{Entry, newest_of, versions_of, with_version}
use Rattle.bk_store.specs.Appends.{Extends}
use Rattle.bk_store.specs.Versions.{IsPlaced, KeyStands, KeysStand, VersionStands}
use Rattle.bk_store.proofs.Keys.{in_put, newest_put}

-- ---- the known bytes

pub extends_same : (r s : Reading) → KnowsSame r s → Extends r s
extends_same r s same n = ([], same n ∙ sym (append-nil (bytes_in r n)))

pub extends_refl : (r : Reading) → Extends r r
extends_refl r n = ([], sym (append-nil (bytes_in r n)))

pub extends_trans : (r s t : Reading) → Extends r s → Extends s t → Extends r t
extends_trans r s t first second n =
    let (more, is) = first n in
    let (most, last) = second n in
    (more ++ most, last ∙ ap (λ (b : List ℕ). b ++ most) is ∙ append_assoc (bytes_in r n) more most)

-- ---- one version

pub text_stays : (r s : Reading) (n : Name) (from size : ℕ) (text : List ℕ) → Extends r s → length text ≡ size
    → take size (drop from (bytes_in r n)) ≡ text → take size (drop from (bytes_in s n)) ≡ text
text_stays r s n from size text more long was =
    let (behind, is) = more n in
    ap (λ (b : List ℕ). take size (drop from b)) is
    ∙ range_stays from size (bytes_in r n) behind (ap length was ∙ long) ∙ was

pub version_stays : (r s : Reading) (v : Version) (w : Write) → Extends r s → VersionStands r v w → VersionStands s v w
version_stays r s v w more h = record {
  says = h.says;
  text = λ put. text_stays r s (main v.file.0) v.at v.size (record_of w) more
      (length-record_of w ∙ sym (ap (λ (x : Version). x.size) h.says)) (h.text put);
}

pub key_stays : (r s : Reading) (v : Option Version) (w : Option Write) → Extends r s → KeyStands r v w → KeyStands s v w
key_stays r s None w more h = h
key_stays r s (Some v) None more h = h
key_stays r s (Some v) (Some w) more h = version_stays r s v w more h

pub placed_stays : (r s : Reading) (log later : List Write) (key : List ℕ) (v : Version) → Extends r s
    → IsPlaced r log key v → IsPlaced s (log ++ later) key v
placed_stays r s log later key v more h put =
    let (w, is_in, is_key, stands) = h put in
    (w, in-append_left w log later is_in, is_key, version_stays r s v w more stands)

-- ---- all keys

-- nothing is put, and the files know no less
pub keys_stay : (r s : Reading) (entries : List Entry) (log : List Write) → Extends r s → KeysStand r entries log
    → KeysStand s entries log
keys_stay r s entries log more h = record {
  newest = λ key. key_stays r s (newest_of (versions_of key entries)) (winner log key) more (h.newest key);
  placed = λ e v there is_in put.
      let (w, in_log, is_key, stands) = h.placed e v there is_in put in
      (w, in_log, is_key, version_stays r s v w more stands);
}

newest_after : (s : Reading) (log : List Write) (w : Write) (v : Version) (key : List ℕ) (old : Option Version)
    → VersionStands s v w → KeyStands s old (winner log key)
    → KeyStands s (cond (bytes_eq w.key key) (Some v) old) (winner (log ++ w ∷ []) key)
newest_after s log w v key old new was =
    subst (KeyStands s (cond (bytes_eq w.key key) (Some v) old)) (sym (winner-append log (w ∷ []) key))
    (go (bytes_eq w.key key)) where
      go : (b : Bool) → KeyStands s (cond b (Some v) old) (or_else (cond b (Some w) None) (winner log key))
      go true = new
      go false = was

-- the version of a write is put, whose record stands there
pub keys_put : (slots : List (Option Slot)) (r s : Reading) (entries : List Entry) (log : List Write) (w : Write) (v : Version)
    → Extends r s → VersionStands s v w → KeysStand r entries log
    → KeysStand s (with_version slots w.key v entries) (log ++ w ∷ [])
keys_put slots r s entries log w v more new h = record {
  newest = λ key.
      subst (λ (o : Option Version). KeyStands s o (winner (log ++ w ∷ []) key)) (sym (newest_put slots w.key v entries key))
      (newest_after s log w v key (newest_of (versions_of key entries)) new
      (key_stays r s (newest_of (versions_of key entries)) (winner log key) more (h.newest key)));
  placed = λ e x there is_in.
      elim (in_put slots w.key v entries e x there is_in) [
        | inl put ↦ λ not_gone. (
          w,
          in-append_right w log (w ∷ []) (inl refl),
          sym put.0,
          subst (λ (y : Version). VersionStands s y w) (sym put.1) new,
        )
        | inr old ↦
            subst (λ (key : List ℕ). IsPlaced s (log ++ w ∷ []) key x) (sym old.2)
            (placed_stays r s log (w ∷ []) old.0.0 x more (h.placed old.0 x old.1 old.3))
      ];
}
