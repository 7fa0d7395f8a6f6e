-- The definitions of weights, evaluated on examples.
use Rattle.std.specs.Prelude.{◌≡◌, ℕ, ℤ, ◌+◌, pos, neg_ℤ, codes, false, List, [], ◌∷◌, Result, Ok, Err}
use Rattle.cpl_grid.specs.Owners.{Layout}
use Rattle.cpl_route.specs.declared.need.Need.{Need}
use Rattle.cpl_smm.specs.Files.{records_of, weights_of}
use Rattle.cpl_smm.specs.Needs.{needs_of}
use Rattle.cpl_smm.specs.Records.{Factor, most_records, record_factor}
use Rattle.cpl_smm.specs.Rows.{Entry, Table}
use Rattle.cpl_smm.specs.Sums.{image_of}
use Rattle.cpl_smm.specs.declared.fault.WeightFault.{WeightFault}
use Rattle.cpl_smm.specs.declared.fault.WeightFault.TheVariants.{BadRecord, IndexRange, WeightRange, PairTwice, TooManyWeights}

-- the weights of a text over three source and two destination cells
abbrev pub weights : List ℕ → Result Table WeightFault
weights text = weights_of 3 2 text

-- what the first record of three source and two destination cells says
abbrev pub first : List (List ℕ) → Result Factor WeightFault
first fields = record_factor 3 2 1 fields

-- a table over three source and two destination cells
abbrev pub table : ℕ → List Entry → List Entry → Table
table records one two = record { src_cells = 3; records = records; rows = one ∷ two ∷ [] }

-- the third part of one
abbrev pub third : ℤ
third = pos 333333333

-- two cells, on PETs 4 and 5
abbrev pub two_on_two : Layout
two_on_two = record { grid = record { nx = 2; ny = 1; periodic = false }; px = 2; py = 1; first_pet = 4 }

-- a PET and the cells that it needs
abbrev pub need : ℕ → List ℕ → Need
need pet cells = record { pet = pet; cells = cells }

-- records and what they say, tables of files, faults of files, sums, and what PETs need
pub record WeightExamples : Type 0 where
  pub says : first (codes "3" ∷ codes "2" ∷ codes "-0.5" ∷ []) ≡ Ok (record { src = 3; dst = 2; weight = neg_ℤ (pos 500000000) })
  pub zeros : first (codes "03" ∷ codes "002" ∷ codes "007.50" ∷ []) ≡ Ok (record { src = 3; dst = 2; weight = pos 7500000000 })
  pub two_fields : first (codes "1" ∷ codes "1" ∷ []) ≡ Err (BadRecord 1)
  pub four_fields : first (codes "1" ∷ codes "1" ∷ codes "1" ∷ codes "" ∷ []) ≡ Err (BadRecord 1)
  pub blank : first (codes "1" ∷ codes " 1" ∷ codes "1" ∷ []) ≡ Err (BadRecord 1)
  pub ten_places : first (codes "1" ∷ codes "1" ∷ codes "0.0000000000" ∷ []) ≡ Err (BadRecord 1)
  pub no_cell : first (codes "0" ∷ codes "1" ∷ codes "1" ∷ []) ≡ Err (IndexRange 1)
  pub past_sources : first (codes "4" ∷ codes "1" ∷ codes "1" ∷ []) ≡ Err (IndexRange 1)
  pub past_destinations : first (codes "1" ∷ codes "3" ∷ codes "1" ∷ []) ≡ Err (IndexRange 1)
  pub greatest : first (codes "1" ∷ codes "1" ∷ codes "1000" ∷ []) ≡ Ok (record { src = 1; dst = 1; weight = pos 1000000000000 })
  pub past_weights : first (codes "1" ∷ codes "1" ∷ codes "-1000.000000001" ∷ []) ≡ Err (WeightRange 1)
  pub form_before_index : first (codes "0" ∷ codes "1" ∷ codes "1e3" ∷ []) ≡ Err (BadRecord 1)
  pub index_before_weight : first (codes "0" ∷ codes "1" ∷ codes "2000" ∷ []) ≡ Err (IndexRange 1)
  pub too_many_before_form : record_factor 3 2 (most_records + 1) [] ≡ Err (TooManyWeights 4194305)
  pub records : records_of (codes "1,\"2\"\r\n\n3") ≡ (codes "1" ∷ codes "2" ∷ []) ∷ (codes "3" ∷ []) ∷ []
  pub sorted : weights (codes "2,2,1\n3,1,0.25\n1,1,-1\n") ≡ Ok (table 3 ((1, neg_ℤ (pos 1000000000)) ∷ (3, pos 250000000) ∷ []) ((2, pos 1000000000) ∷ []))
  pub no_records : weights (codes "") ≡ Ok (table 0 [] [])
  pub pair_twice : weights (codes "1,1,1\n2,1,1\n1,1,0\n2,1,1\n") ≡ Err (PairTwice 3)
  pub first_fault : weights (codes "1,1,1\n0,1,1\n1,1,1\n") ≡ Err (IndexRange 2)
  pub pair_before_fault : weights (codes "1,1,1\n1,1,1\n0,1,1\n") ≡ Err (PairTwice 2)
  pub half : image_of ((1, pos 500000000) ∷ []) (pos 1 ∷ []) ≡ pos 1
  pub half_below_zero : image_of ((1, pos 500000000) ∷ []) (neg_ℤ (pos 1) ∷ []) ≡ pos 0
  pub thirds : image_of ((1, third) ∷ (2, third) ∷ (3, third) ∷ []) (pos 1 ∷ pos 1 ∷ pos 1 ∷ []) ≡ pos 1
  pub no_factor : image_of [] [] ≡ pos 0
  pub clipped : image_of ((1, pos 1000000000000) ∷ []) (neg_ℤ (pos 1000000000000000) ∷ []) ≡ neg_ℤ (pos 1000000000000000)
  pub needs : needs_of (table 3 ((1, third) ∷ (3, third) ∷ []) []) two_on_two ≡ need 4 (1 ∷ 3 ∷ []) ∷ need 5 [] ∷ []
