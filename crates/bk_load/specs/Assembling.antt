-- What was loaded, from what was learned and found.
use Rattle.std.specs.Prelude.{◌≡◌, ◌<◌, ◌^◌, false, List, length, map}
use Rattle.std.specs.List.{IsDistinct}
use Rattle.std.specs.Map.{keys_of}
use Rattle.std.specs.Str.{bytes_eq}
use Rattle.bk_base.specs.declared.limits.TheConstants.{MOST_FOLDS}
use Rattle.bk_base.specs.declared.names.Name.{Name}
use Rattle.bk_base.specs.declared.numbers.FileId.{FileId}
use Rattle.bk_keydir.specs.declared.loads.Loaded.{Loaded}
use Rattle.bk_keydir.specs.Keydir.{without_gone}
use Rattle.bk_keydir.specs.Slots.{has_open}
use Rattle.bk_load.specs.declared.files.FileFound.{FileFound}
use Rattle.bk_load.specs.Counting.{all_counted}
use Rattle.bk_load.specs.Found.{found_row}
use Rattle.bk_load.specs.Learning.{Known}
use Rattle.bk_load.specs.Loads.{Reports}

pub record Assembled (k : Known) (found : List FileFound) (odd : List Name) (last : FileId) (l : Loaded) : Type 0 where
  pub entries : l.keydir.entries ≡ without_gone k.keys.entries
  pub no_fold : has_open l.keydir.slots ≡ false
  pub slots : length l.keydir.slots ≡ MOST_FOLDS
  -- there were few keys, and each stood once
  pub few : length k.keys.entries < 2 ^ 63
  pub once : IsDistinct bytes_eq (keys_of k.keys.entries)
  pub rows : l.rows.items ≡ all_counted l.keydir.entries (map found_row found)
  pub report : Reports found l.report
  pub odd_names : l.report.odd.items ≡ odd
  pub seq : l.last_seq.0 ≡ k.last
  pub file : l.last_file ≡ last
