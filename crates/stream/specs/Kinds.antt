-- The names of the kinds of events.
use Rattle.std.specs.Prelude.{ℕ, List, codes}
use Rattle.stream.specs.declared.kinds.EventKind.{EventKind}
use Rattle.stream.specs.declared.kinds.EventKind.TheVariants.{StartArray, StartDictionary, EndCollection, Boolean, Data, Integer, Real, String, Uid, ValueOrStartCollection, DictionaryKeyOrEndCollection}

-- a kind as text, in ASCII
abbrev pub kind_name : EventKind → List ℕ
kind_name StartArray = codes "StartArray"
kind_name StartDictionary = codes "StartDictionary"
kind_name EndCollection = codes "EndCollection"
kind_name Boolean = codes "Boolean"
kind_name Data = codes "Data"
kind_name Integer = codes "Integer"
kind_name Real = codes "Real"
kind_name String = codes "String"
kind_name Uid = codes "Uid"
kind_name ValueOrStartCollection = codes "ValueOrStartCollection"
kind_name DictionaryKeyOrEndCollection = codes "DictionaryKeyOrEndCollection"
