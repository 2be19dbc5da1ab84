mod StruckLemmas
