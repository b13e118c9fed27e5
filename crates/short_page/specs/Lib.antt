pub mod ShortTexts
pub mod ShortPages
pub mod LedBack
