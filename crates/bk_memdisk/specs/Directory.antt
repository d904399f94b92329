-- How the files of a disk in memory stand for what they tell.
use Rattle.std.specs.Prelude.{◌≡◌, ◌+◌, ◌≤◌, [], sum_by}
use Rattle.std.specs.Vec.{vec_len, vec_capacity}
use Rattle.bk_memdisk.specs.declared.directory.Directory.TheInside.{Inside}
use Rattle.bk_memdisk.specs.Contents.{Contents}
use Rattle.bk_memdisk.specs.Journal.{after_all, fronts_of, fronts_before}
use Rattle.bk_memdisk.specs.Fits.{image_of, rooms_of, owed, Tied}

abbrev pub contents_of : Inside → Contents
contents_of d = record {
  told = record {
    image = image_of d.files.items;
    past = fronts_before [] d.journal.items;
    fronts = fronts_of (after_all [] d.journal.items);
    asked = d.asked.items;
    stray_views = d.stray_views;
  };
  rooms = rooms_of d.files.items;
}

pub record IsKept (d : Inside) : Type 0 where
  pub tied : Tied d.files.items (after_all [] d.journal.items)
  pub reserved : d.reserved ≡ sum_by owed d.files.items
  pub room : vec_len d.journal + d.reserved ≤ vec_capacity d.journal
