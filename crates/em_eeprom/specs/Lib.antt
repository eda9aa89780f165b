pub mod Eeprom
