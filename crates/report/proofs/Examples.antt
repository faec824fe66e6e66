-- Document 01's example to the byte, and refusals, by computation. Assumes nothing.
use mathlib.Core.Path.{◌≡◌, refl}
use lib.ListN.{replicate, set}
use Rattle.model.specs.Registers.{count_of}
use Rattle.model.specs.Sums.{share, scaled}
use Rattle.report.specs.Report.{name_of, most, place_text, refused_text, merged_text}
use Rattle.text.specs.Text.{line, spelt, text}

-- sixteen registers, register 3 at 5
pub two_files : merged_text 2 4 (set (replicate 16 0) 3 5) ≡ text "answer=OK\nfiles=2\nlgk=4\nzeros=15\nmax=5\nkxq0n=32279363584\nkxq1n=0\n"
unfolding merged_text name_of line most count_of share scaled spelt
two_files = refl

pub a_bad_job : refused_text 18 0 0 ≡ text "answer=JOB\ncode=18\nfile=0\n"
unfolding refused_text place_text name_of line spelt
a_bad_job = refl

pub a_file_without_room : refused_text 6 0 64 ≡ text "answer=NO_ROOM\ncode=6\nfile=64\n"
unfolding refused_text place_text name_of line spelt
a_file_without_room = refl

-- a fourth line, with 0 too where the answer says so
pub a_slot_twice : refused_text 22 17 3 ≡ text "answer=AUX_TWICE\ncode=22\nfile=3\nplace=17\n"
unfolding refused_text place_text name_of line spelt
a_slot_twice = refl

pub a_wrong_count : refused_text 24 0 1 ≡ text "answer=AUX_COUNT\ncode=24\nfile=1\nplace=0\n"
unfolding refused_text place_text name_of line spelt
a_wrong_count = refl

-- no other number has a name, nor has 13 any more
pub unknown : refused_text 26 7 1 ≡ text "answer=\ncode=26\nfile=1\n"
unfolding refused_text place_text name_of line spelt
unknown = refl

pub not_used : refused_text 13 7 1 ≡ text "answer=\ncode=13\nfile=1\n"
unfolding refused_text place_text name_of line spelt
not_used = refl
