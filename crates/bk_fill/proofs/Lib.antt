pub mod MadeExchanges
pub mod PairTexts
pub mod PutCalls
pub mod PutLaws
pub mod WorkLaws
pub mod LineLaws
