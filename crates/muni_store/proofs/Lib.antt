mod OpenLemmas
mod SealLemmas
