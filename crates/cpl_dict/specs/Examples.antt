-- The definitions of dictionaries, evaluated on examples.
use Rattle.std.specs.Prelude.{◌≡◌, [], ◌∷◌, codes, Ok, Err, Some, None}
use Rattle.cpl_dict.specs.Dict.{Dictionary, bond_of, units_of, with_name, with_synonyms}
use Rattle.cpl_dict.specs.Numbers.{bond_between, call_names_of, calls_of, name_of, number_of}
use Rattle.cpl_dict.specs.declared.fault.DictFault.TheVariants.{NameTwice, NameUnknown, UnitsDiffer}

-- three names of a temperature and one of a wind; one call gave the first and the second, another the third and the second
abbrev pub winds : Dictionary
winds = record {
  names = (codes "t", codes "K") ∷ (codes "temp", codes "K") ∷ (codes "tas", codes "K") ∷ (codes "u", codes "m s-1") ∷ [];
  calls = (codes "t" ∷ codes "temp" ∷ []) ∷ (codes "tas" ∷ codes "temp" ∷ []) ∷ [];
}

-- a dictionary without names
abbrev pub empty_dictionary : Dictionary
empty_dictionary = record { names = []; calls = [] }

-- a dictionary of one name
abbrev pub lone_dictionary : Dictionary
lone_dictionary = record { names = (codes "t", codes "K") ∷ []; calls = [] }

-- a dictionary with names, how names match in it, and their numbers; dictionaries with one more name or synonym call, and what is refused
pub record DictExamples : Type 0 where
  pub units_known : units_of winds (codes "u") ≡ Some (codes "m s-1")
  pub units_unknown : units_of winds (codes "v") ≡ None
  pub bond_equal : bond_of winds (codes "t") (codes "t") ≡ 2
  pub bond_synonym : bond_of winds (codes "t") (codes "temp") ≡ 1
  pub bond_turned : bond_of winds (codes "temp") (codes "tas") ≡ 1
  pub bond_no_chain : bond_of winds (codes "t") (codes "tas") ≡ 0
  pub bond_none : bond_of winds (codes "t") (codes "u") ≡ 0
  pub bond_unknown : bond_of winds (codes "t") (codes "v") ≡ 0
  pub bond_unknown_equal : bond_of winds (codes "x") (codes "x") ≡ 2
  pub number_first : number_of winds (codes "t") ≡ Some 0
  pub number_last : number_of winds (codes "u") ≡ Some 3
  pub number_unknown : number_of winds (codes "v") ≡ None
  pub name_third : name_of winds 2 ≡ codes "tas"
  pub calls_two : calls_of winds 1 ≡ 0 ∷ 1 ∷ []
  pub calls_one : calls_of winds 2 ≡ 1 ∷ []
  pub calls_none : calls_of winds 3 ≡ []
  pub call_names : call_names_of winds 1 ≡ 2 ∷ 1 ∷ []
  pub between_equal : bond_between winds 3 3 ≡ 2
  pub between_synonyms : bond_between winds 1 2 ≡ 1
  pub between_no_chain : bond_between winds 0 2 ≡ 0
  pub adds_first : with_name empty_dictionary (codes "t") (codes "K") ≡ Ok lone_dictionary
  pub adds_twice : with_name winds (codes "t") (codes "degC") ≡ Err NameTwice
  pub binds_none : with_synonyms empty_dictionary [] ≡ Ok (record { names = []; calls = [] ∷ [] })
  pub binds_itself : with_synonyms lone_dictionary (codes "t" ∷ codes "t" ∷ []) ≡ Ok (record { names = lone_dictionary.names; calls = (codes "t" ∷ codes "t" ∷ []) ∷ [] })
  pub binds_unknown : with_synonyms winds (codes "t" ∷ codes "v" ∷ []) ≡ Err NameUnknown
  pub binds_differing : with_synonyms winds (codes "t" ∷ codes "tas" ∷ codes "u" ∷ []) ≡ Err UnitsDiffer
  pub binds_unknown_first : with_synonyms winds (codes "t" ∷ codes "u" ∷ codes "v" ∷ []) ≡ Err NameUnknown
