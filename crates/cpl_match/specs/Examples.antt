-- The definitions of matching, evaluated on examples.
use Rattle.std.specs.Prelude.{◌≡◌, ℕ, true, false, List, [], ◌∷◌, codes, Ok, Err, Result}
use Rattle.cpl_dict.specs.Dict.{Dictionary}
use Rattle.cpl_match.specs.Matching.{best_fit, matched_pairs}
use Rattle.cpl_match.specs.declared.fault.MatchFault.{MatchFault}
use Rattle.cpl_match.specs.declared.fault.MatchFault.TheVariants.{Ambiguous, Unmatched, SizeDiffers}
use Rattle.cpl_match.specs.declared.port.Pair.{Pair}
use Rattle.cpl_match.specs.declared.port.Port.{Port}
use Rattle.cpl_match.specs.declared.port.Way.{Way}

-- three names of a temperature and one of a wind; one call gave the first and the second, another the second and the third
abbrev pub names : Dictionary
names = record {
  names = (codes "t", codes "K") ∷ (codes "temp", codes "K") ∷ (codes "tas", codes "K") ∷ (codes "u", codes "m") ∷ [];
  calls = (codes "t" ∷ codes "temp" ∷ []) ∷ (codes "temp" ∷ codes "tas" ∷ []) ∷ [];
}

-- an export
abbrev pub exported : ℕ → ℕ → List ℕ → Port
exported component field standard = record { component = component; field = field; import = false; standard = standard; optional = false }

-- an import that needs an export
abbrev pub imported : ℕ → ℕ → List ℕ → Port
imported component field standard = record { component = component; field = field; import = true; standard = standard; optional = false }

-- an import that needs none
abbrev pub optional : ℕ → ℕ → List ℕ → Port
optional component field standard = record { component = component; field = field; import = true; standard = standard; optional = true }

-- a way by redistribution
abbrev pub redist : ℕ → ℕ → Way
redist src dst = record { src = src; dst = dst; redist = true }

-- a way by weights
abbrev pub weights : ℕ → ℕ → Way
weights src dst = record { src = src; dst = dst; redist = false }

-- a pair
abbrev pub pair : ℕ → ℕ → ℕ → ℕ → Pair
pair src src_field dst dst_field = record { src = src; src_field = src_field; dst = dst; dst_field = dst_field }

-- the pairs of three components with 4, 4 and 6 cells
abbrev pub pairs : List Way → List Port → Result (List Pair) MatchFault
pairs ways ports = matched_pairs names (4 ∷ 4 ∷ 6 ∷ []) ways ports

-- pairs by equal names and by synonyms, and each refusal
pub record MatchExamples : Type 0 where
  pub equal_names : pairs (redist 0 1 ∷ []) (exported 0 3 (codes "t") ∷ imported 1 5 (codes "t") ∷ []) ≡ Ok (pair 0 3 1 5 ∷ [])
  pub synonyms : pairs (redist 0 1 ∷ []) (exported 0 3 (codes "t") ∷ imported 1 5 (codes "temp") ∷ []) ≡ Ok (pair 0 3 1 5 ∷ [])
  pub equal_before_synonym : pairs (redist 0 1 ∷ redist 2 1 ∷ []) (exported 0 3 (codes "temp") ∷ exported 0 4 (codes "t") ∷ imported 1 5 (codes "t") ∷ []) ≡ Ok (pair 0 4 1 5 ∷ [])
  pub fit_synonym : best_fit names (redist 0 1 ∷ []) (exported 0 3 (codes "temp") ∷ exported 0 4 (codes "u") ∷ []) (imported 1 5 (codes "t")) ≡ 1
  pub no_chain : pairs (redist 0 1 ∷ []) (exported 0 3 (codes "t") ∷ imported 1 5 (codes "tas") ∷ []) ≡ Err (Unmatched 1 5)
  pub unknown_names : pairs (redist 0 1 ∷ []) (exported 0 3 (codes "v") ∷ imported 1 5 (codes "v") ∷ []) ≡ Ok (pair 0 3 1 5 ∷ [])
  pub two_of_one : pairs (redist 0 1 ∷ []) (exported 0 3 (codes "t") ∷ exported 0 4 (codes "t") ∷ imported 1 5 (codes "t") ∷ []) ≡ Err (Ambiguous 1 5 (0, 3) (0, 4))
  pub two_of_two : pairs (redist 0 1 ∷ weights 2 1 ∷ []) (exported 0 3 (codes "t") ∷ imported 1 5 (codes "temp") ∷ exported 2 0 (codes "tas") ∷ []) ≡ Err (Ambiguous 1 5 (0, 3) (2, 0))
  pub hidden : pairs (redist 0 1 ∷ weights 2 1 ∷ []) (exported 0 3 (codes "t") ∷ imported 1 5 (codes "temp") ∷ exported 2 0 (codes "tas") ∷ exported 2 1 (codes "temp") ∷ []) ≡ Ok (pair 2 1 1 5 ∷ [])
  pub unmatched : pairs (redist 0 1 ∷ []) (exported 0 3 (codes "u") ∷ imported 1 5 (codes "t") ∷ []) ≡ Err (Unmatched 1 5)
  pub not_needed : pairs (redist 0 1 ∷ []) (exported 0 3 (codes "u") ∷ optional 1 5 (codes "t") ∷ imported 1 6 (codes "u") ∷ []) ≡ Ok (pair 0 3 1 6 ∷ [])
  pub optional_ambiguous : pairs (redist 0 1 ∷ []) (exported 0 3 (codes "t") ∷ exported 0 4 (codes "t") ∷ optional 1 5 (codes "t") ∷ []) ≡ Err (Ambiguous 1 5 (0, 3) (0, 4))
  pub no_way : pairs (redist 1 0 ∷ redist 2 1 ∷ []) (exported 0 3 (codes "t") ∷ imported 1 5 (codes "t") ∷ []) ≡ Err (Unmatched 1 5)
  pub own_export : pairs (redist 0 1 ∷ []) (exported 1 3 (codes "t") ∷ imported 1 5 (codes "t") ∷ []) ≡ Err (Unmatched 1 5)
  pub size_differs : pairs (redist 2 1 ∷ []) (imported 1 5 (codes "t") ∷ exported 2 0 (codes "t") ∷ []) ≡ Err (SizeDiffers 2 1)
  pub by_weights : pairs (weights 2 1 ∷ []) (imported 1 5 (codes "t") ∷ exported 2 0 (codes "t") ∷ []) ≡ Ok (pair 2 0 1 5 ∷ [])
  pub first_way : pairs (weights 2 1 ∷ redist 2 1 ∷ []) (imported 1 5 (codes "t") ∷ exported 2 0 (codes "t") ∷ []) ≡ Ok (pair 2 0 1 5 ∷ [])
  pub first_fault : pairs (redist 0 1 ∷ redist 0 2 ∷ []) (exported 0 3 (codes "t") ∷ imported 1 5 (codes "u") ∷ imported 2 0 (codes "t") ∷ []) ≡ Err (Unmatched 1 5)
  pub in_order : pairs (redist 0 1 ∷ weights 0 2 ∷ []) (exported 0 3 (codes "t") ∷ imported 1 5 (codes "t") ∷ imported 2 0 (codes "temp") ∷ imported 2 1 (codes "t") ∷ [])
      ≡ Ok (pair 0 3 1 5 ∷ pair 0 3 2 0 ∷ pair 0 3 2 1 ∷ [])
