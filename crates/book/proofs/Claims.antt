-- The promised theorems: specs/Claims states them. The sets are proved in Bits, the walk in Visits, Refusals and Joined,
-- the worked book in Octant.
use Rattle.book.specs.Claims.{BitsAgree, GridsMatch, SetsDisjoint, CountIsZones, RefusedBook, ReaderVisits}
use Rattle.book.specs.Claims.{ReaderStays, PartsAreSheets, SheetsMakeBook, OctantBook}
use Rattle.book.proofs.Bits.{bits_agree, grids_match, sets_disjoint, count_is_zones}
use Rattle.book.proofs.Visits.{reader_visits, reader_stays, parts_are_sheets}
use Rattle.book.proofs.Refusals.{refused_book}
use Rattle.book.proofs.Joined.{sheets_make_book}
use Rattle.book.proofs.Octant.{octant_book}

pub bits_agree_holds : BitsAgree
bits_agree_holds = bits_agree

pub grids_match_holds : GridsMatch
grids_match_holds = grids_match

pub sets_disjoint_holds : SetsDisjoint
sets_disjoint_holds = sets_disjoint

pub count_is_zones_holds : CountIsZones
count_is_zones_holds = count_is_zones

pub refused_book_holds : RefusedBook
refused_book_holds = refused_book

pub reader_visits_holds : ReaderVisits
reader_visits_holds = reader_visits

pub reader_stays_holds : ReaderStays
reader_stays_holds = reader_stays

pub parts_are_sheets_holds : PartsAreSheets
parts_are_sheets_holds = parts_are_sheets

pub sheets_make_book_holds : SheetsMakeBook
sheets_make_book_holds = sheets_make_book

pub octant_book_holds : OctantBook
octant_book_holds = octant_book
