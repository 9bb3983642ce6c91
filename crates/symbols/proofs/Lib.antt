pub mod EventText
pub mod ReadLaws
pub mod TextLaws
pub mod WriteLaws
