pub mod ReadsLemmas
pub mod TableLemmas
pub mod KeyedLemmas
pub mod RecordLemmas
pub mod TimesLemmas
