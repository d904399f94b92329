-- The file of the settings, as it is listed.
use Rattle.std.proofs.Common.{◌≡◌, ℕ, List, [], length, Option, Some, None, Ok, refl, sym, ap, subst, ◌∙◌}
use Rattle.std.specs.Option.{option_map, unwrap_or}
use Rattle.bk_base.specs.declared.names.Name.{Name}
use Rattle.bk_disk.specs.Told.{Told, at, bytes_of}
use Rattle.bk_policy.specs.Settings.{defaults}
use Rattle.bk_policy.specs.declared.settings.Settings.{Settings}
use Rattle.bk_load.specs.SettingsFile.{Answers}
use Rattle.bk_load.specs.Steps.{AsksOnly}
use Rattle.bk_load.proofs.Listings.{map_some}

-- all of the file was asked for, after a call that told nothing new
pub asks_whole : (n : Name) (len : ℕ) (t u v : Told) → u ≡ t → option_map length (at u.image n) ≡ Some len → AsksOnly n len u v
    → AsksOnly n (length (bytes_of n t.image)) t v
asks_whole n len t u v same long asks =
    let (bytes, there, size) = map_some (at u.image n) len long in
    let all : len ≡ length (bytes_of n u.image) =
    sym size ∙ ap (λ (o : Option (List ℕ)). length (unwrap_or o bytes)) (sym there)
    ∙ go (at u.image n) bytes there in
    subst (λ (w : Told). AsksOnly n (length (bytes_of n w.image)) w v) same
    (subst (λ (k : ℕ). AsksOnly n k u v) all asks) where
      go : (o : Option (List ℕ)) (b : List ℕ) → o ≡ Some b → length (unwrap_or o b) ≡ length (unwrap_or o [])
      go (Some x) b is = refl
      go None b is = absurd (cc is)

none_there : (o : Option (List ℕ)) → option_map length o ≡ None → o ≡ None
none_there None is = refl
none_there (Some bytes) is = absurd (cc is)

pub plain_answers : (o : Option (List ℕ)) (s : Settings) → option_map length o ≡ None → s ≡ defaults → Answers o (Ok s)
plain_answers o s none is = subst (λ (p : Option (List ℕ)). Answers p (Ok s)) (sym (none_there o none)) is
